use Rattle.typing_rules.proofs.TypesFit.{fits_exactly}
use Rattle.typing_rules.proofs.laws.types_fit_in_words.Goals as goal

pub returns : goal.returns
returns c = fits_exactly
