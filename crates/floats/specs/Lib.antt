pub mod Float64
