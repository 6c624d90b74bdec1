-- The names of files as the code keeps them.
use Rattle.run_io.specs.declared.words.Command as kept_command
use Rattle.run_io.specs.declared.words.Command.TheVariants as commands
use Rattle.run_io.specs.declared.words.FileKind.{FileKind}
use Rattle.run_io.specs.declared.words.FileKind.TheVariants as kinds
use Rattle.run_io.specs.declared.words.Names as kept
use Rattle.run_io.specs.declared.words.PairNames as kept_pair
use Rattle.run_io.specs.Files.{File, Ast, Jrag, Tree, Queries}
use Rattle.run_io.specs.Files as files
use Rattle.run_io.specs.Words.{Check, Command, FileNames, PairNames, PrintTree, Run}
use Rattle.std.specs.Prelude.{◌≡◌, ℕ, List, Option, Some, None}

abbrev pub seen_names : kept.Names → FileNames
seen_names n = record { ast = n.ast.now; jrag = n.jrag.now; tree = n.tree.now; queries = n.queries.now }

abbrev pub seen_pair_names : kept_pair.PairNames → PairNames
seen_pair_names n = record { ast = n.ast.now; other = n.other.now }

abbrev pub seen_command : kept_command.Command → Command
seen_command (commands.Run n) = Run (seen_names n)
seen_command (commands.Check n) = Check (seen_pair_names n)
seen_command (commands.Tree n) = PrintTree (seen_pair_names n)

abbrev pub seen_file : FileKind → File
seen_file kinds.Ast = Ast
seen_file kinds.Jrag = Jrag
seen_file kinds.Tree = Tree
seen_file kinds.Queries = Queries

abbrev pub name_of : FileNames → File → List ℕ
name_of names file = files.name_of names file

abbrev pub pair_name_of : PairNames → File → List ℕ
pair_name_of names file = files.pair_name_of names file

-- the names are these two, or there are none
abbrev pub IsSeenAsPair : Option kept_pair.PairNames → Option PairNames → Type 0
IsSeenAsPair None names = names ≡ None
IsSeenAsPair (Some n) names = names ≡ Some (seen_pair_names n)

-- the command is this one, or there is none
abbrev pub IsSeenAsCommand : Option kept_command.Command → Option Command → Type 0
IsSeenAsCommand None command = command ≡ None
IsSeenAsCommand (Some c) command = command ≡ Some (seen_command c)
