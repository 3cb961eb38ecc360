-- What a tree is, how a map's merges are resolved, and what follows for its own keys.
pub mod Data
pub mod Value
pub mod OwnKeys
-- How the code bounds the depth, what stands for a value, and what the values of the code stand
-- for.
pub mod Bound
pub mod Sifted
pub mod Standin
pub mod Shown
pub mod ShownView
pub mod MergedView
pub mod TreeSize
pub mod TreeView
pub mod DraftView
pub mod HeldView
pub mod ValueView
pub mod Bare
pub mod PairsView
pub mod GatheredView
pub mod Parts
pub mod PartsView
