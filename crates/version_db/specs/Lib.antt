pub mod AnnexE
