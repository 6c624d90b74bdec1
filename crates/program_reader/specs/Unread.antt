-- Why a file was not read.
use Rattle.broken_rules.specs.declared.broken.ReadFault.{ReadFault}
use Rattle.broken_rules.specs.declared.broken.ReadFault.TheVariants as faults
use Rattle.program_reader.specs.declared.files.Unread as kept
use Rattle.program_reader.specs.declared.files.Unread.TheVariants as unread

abbrev pub unread_for : ReadFault → kept.Unread
unread_for (faults.Broken b) = unread.Broken b
unread_for faults.Memory = unread.Memory
