pub mod Unpainted
