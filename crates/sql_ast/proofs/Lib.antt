pub mod ArgForms
pub mod ParamsInOrder
