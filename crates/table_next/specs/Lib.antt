pub mod FirstUse
