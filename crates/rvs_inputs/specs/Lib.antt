pub mod Specification
pub mod Printing
pub mod GroupTexts
pub mod GroupFiles
pub mod GroupsView
pub mod DeviceInput
pub mod DatabaseInput
pub mod TreeInput
