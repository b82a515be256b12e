pub mod Remember
