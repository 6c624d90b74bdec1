-- Codes of what names name, by the makers of some trees.
use Rattle.std.specs.Prelude.{ℕ, List}
use Rattle.equation_law.specs.declared.coding.Args.{Args}
use Rattle.equation_law.specs.declared.coding.Instance.{Instance as CodedInstance}
use Rattle.equation_law.specs.declared.system.System.{System}
use Rattle.equation_law.specs.Program.{text_of}
use Rattle.equation_law.specs.Systems.{program_of}
use Rattle.made_trees.specs.Makers.{Trees}
use Rattle.plain_rounds.specs.declared.naming.Name.{Name}
use Rattle.plain_rounds.specs.declared.naming.NamedArg.{NamedArg}
use Rattle.plain_rounds.specs.declared.naming.NamedArgs.{NamedArgs}
use Rattle.plain_rounds.specs.declared.naming.NamedInstance.{NamedInstance}
use Rattle.plain_rounds.specs.declared.naming.NodeName.{NodeName}
use Rattle.plain_rounds.specs.Coding.{AreArgumentsCoded, AreNamesCoded, IsArgumentCoded, IsInstanceCoded, IsNodeCoded}
use Rattle.plain_rounds.specs.Named.{argument_named, arguments_named, instance_named, instances_named, reference_named}

abbrev pub IsCodeOfNode : System → Trees → NodeName → ℕ → Type 0
IsCodeOfNode s T x c = IsNodeCoded (program_of s) T.makers (reference_named (text_of (program_of s)) x) c

abbrev pub IsCodeOfArgument : System → Trees → NamedArg → ℕ → Type 0
IsCodeOfArgument s T x c = IsArgumentCoded (program_of s) T.makers (argument_named (text_of (program_of s)) x) c

abbrev pub AreCodesOfArguments : System → Trees → NamedArgs → Args → Type 0
AreCodesOfArguments s T xs r = AreArgumentsCoded (program_of s) T.makers (arguments_named (text_of (program_of s)) xs) r

abbrev pub IsCodeOfInstance : System → Trees → NamedInstance → CodedInstance → Type 0
IsCodeOfInstance s T x i = IsInstanceCoded (program_of s) T.makers (instance_named (text_of (program_of s)) x) i

abbrev pub AreCodesOfNames : System → Trees → List Name → List CodedInstance → Type 0
AreCodesOfNames s T xs is = AreNamesCoded (program_of s) T.makers (instances_named (program_of s) xs) is
