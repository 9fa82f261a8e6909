pub mod Life
pub mod Machine
pub mod Methods
pub mod Numbered
pub mod Numbers
pub mod Plans
