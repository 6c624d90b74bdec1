use Rattle.typing_rules.proofs.MembersNamed.{calls_meant, reads_meant}
use Rattle.typing_rules.proofs.laws.members_are_spelled_or_named.Goals as goal

pub returns : goal.returns
returns c = record { reads = reads_meant; calls = λ s c name n a h. calls_meant s c name n a h.0 h.1 }
