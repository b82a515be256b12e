pub mod Outline
