pub mod Above
mod Among
pub mod Bare
pub mod Bounded
pub mod Checked
pub mod Codes
pub mod Collected
pub mod Created
pub mod Deciding
pub mod Declared
pub mod Demanded
pub mod Ended
mod Finite
pub mod Fitting
pub mod Growing
pub mod Grown
pub mod Heights
pub mod Inherited
mod Inside
pub mod Keys
pub mod KeysAsked
pub mod Listed
pub mod Lists
pub mod Makings
pub mod Names
mod Offered
pub mod Orders
pub mod Plain
pub mod Pooled
pub mod Preordered
pub mod QueryValues
pub mod Quiet
pub mod Roots
pub mod Sets
pub mod SetsOrder
pub mod Sites
pub mod Solution
pub mod Sources
mod Spanned
pub mod Subtree
pub mod Tied
pub mod Typed
pub mod TypedValues
mod Worked
mod WorkedCircular
mod WorkedCollections
mod WorkedLoops
mod WorkedPaths
pub mod WorkedTrees
pub mod Written
