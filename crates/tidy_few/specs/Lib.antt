pub mod TidyFew
