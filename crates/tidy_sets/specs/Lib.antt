pub mod TidySets
