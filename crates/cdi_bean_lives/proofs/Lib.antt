mod Adding
mod Below
mod Creating
mod Declared
mod KeptLines
mod Lasting
pub mod Numbering
mod Overriding
mod OwnMethods
mod Rising
