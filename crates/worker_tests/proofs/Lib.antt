pub mod SetMore
