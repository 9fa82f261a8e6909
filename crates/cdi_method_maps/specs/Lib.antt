pub mod NamedMethods
pub mod KeptMethods
pub mod MethodMaps
