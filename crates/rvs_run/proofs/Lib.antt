pub mod MadeFound
