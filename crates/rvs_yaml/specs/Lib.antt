-- The definition of the profile comes first, in the order in which it is to be read: what a check
-- is, what anchors name, an entry of a map, flow collections, the tree of a block of words, and the
-- answer for a text. What a line and its words are stands in rvs_yaml_text, and what a tree and a
-- merge are in rvs_tree. `Parsed` says what `parse` tells.
pub mod Checks
pub mod Anchors
pub mod Entry
pub mod Flow
pub mod Block
pub mod Parsed
pub mod Refusing
-- How the code reads: with a stack of open blocks, and with a list of open brackets. None of this
-- is part of the definition.
pub mod Stack
pub mod StepParts
pub mod Filling
pub mod FlowSteps
pub mod FlowParts
pub mod TokenParts
pub mod Heights
pub mod LineParts
pub mod Front
pub mod Reach
pub mod Reader
-- What the values of the code stand for.
pub mod Gives
pub mod Places
pub mod Rising
pub mod Sketched
pub mod Chain
pub mod Around
pub mod Seen
pub mod StackView
pub mod StepView
pub mod FlowView
pub mod FillView
