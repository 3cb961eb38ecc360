pub mod Found
pub mod Cuts
pub mod Symbols
pub mod Ready
pub mod Mnemonics
pub mod ValueFaults
pub mod Fronts
