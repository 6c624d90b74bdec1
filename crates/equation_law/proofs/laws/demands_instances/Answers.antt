use Rattle.equation_law.proofs.Demanded.{demands_instances}
use Rattle.equation_law.proofs.laws.demands_instances.Goals as goal

pub returns : goal.returns
returns c = λ p good i there A fits j. demands_instances p good i j there A fits
