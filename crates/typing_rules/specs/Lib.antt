pub mod ContributionTypes
pub mod CreatedTypes
pub mod EquationTypes
pub mod FittingRules
pub mod MemberRules
pub mod TypeRules
