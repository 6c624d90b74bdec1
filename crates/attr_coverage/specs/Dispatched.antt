-- What the equations of some rules cover and lack, by a dispatch for them.
use Rattle.std.specs.Prelude.{◌≡◌, ◌&&◌, ℕ, List, Bool, Option, Some, Vec, Result, IfOk, is_none, map, slice_get}
use Rattle.std.specs.List.{list_any}
use Rattle.std.specs.Option.{option_map}
use Rattle.std.specs.declared.alloc.Global.{Global}
use Rattle.rag_io.specs.declared.token.Place.{Place}
use Rattle.rag_io.specs.declared.Memory.{Memory}
use Rattle.broken_rules.specs.Answers.{Ends}
use Rattle.broken_rules.specs.declared.broken.Broken.{Broken}
use Rattle.broken_rules.specs.declared.broken.ReadFault.{ReadFault}
use Rattle.broken_rules.specs.Notes.{Notes, each_from}
use Rattle.ast_grammar.specs.declared.grammar.ClassId.{ClassId}
use Rattle.ast_grammar.specs.Grammar.{Class, is_sub, number_of, superclasses_of}
use Rattle.attr_rules.specs.declared.dispatch.Dispatch.{Dispatch}
use Rattle.attr_rules.specs.declared.dispatch.Target.{Target}
use Rattle.attr_rules.specs.declared.kinds.AttrId.{AttrId}
use Rattle.attr_rules.specs.Dispatching.{Dispatches}
use Rattle.attr_rules.specs.RowsKept.{at_row}
use Rattle.attr_rules.specs.Rules.{AttributeSet}
use Rattle.attr_scope.specs.Classes.{class_numbers}
use Rattle.attr_coverage.specs.declared.covering.Found.{Found}
use Rattle.attr_coverage.specs.declared.created.Created.{Created}
use Rattle.attr_scope.specs.declared.written.Given as kept_given
use Rattle.attr_scope.specs.declared.written.Head as kept_head
use Rattle.attr_scope.specs.Seen.{seen_given, seen_head}
use Rattle.attr_coverage.specs.Completeness.{complete_broken, lacking, places_of, roots_of}
use Rattle.attr_coverage.specs.Covering.{is_concrete, is_covered_for, is_root_of, is_uncovered, may_be_made, may_follow, may_hang}
use Rattle.attr_coverage.specs.CoveringKept.{Adds, mark_at}
use Rattle.attr_coverage.specs.Created.{created_at, made_of, root_by}

-- it holds of the targets of whatever equations the dispatch is for
abbrev pub ForTargets : List Class → Dispatch → (List Target → Type 0) → Type 0
ForTargets g d holds = (targets : List Target) → Dispatches (superclasses_of g) targets d → holds targets

-- nodes of some class have the attribute, which is declared for class c, and the dispatch has no equation for it there
abbrev pub lacks_equation : List Class → Dispatch → AttrId → ClassId → Bool
lacks_equation g d a c = list_any (λ b. is_concrete g b && (is_sub g b c.0 && is_none (at_row d.rows.items b a.0))) (class_numbers g)

-- the classes of some roots by number
abbrev pub numbers_of : List (Option ClassId) → List (Option ℕ)
numbers_of roots = map (option_map number_of) roots

-- the class of the root was found that the equation of an attribute makes at nodes of a class, where equations make roots of these classes
abbrev pub FindsRoot : Dispatch → List (Option ClassId) → ClassId → AttrId → Option ClassId → Type 0
FindsRoot d roots class a root = (g : List Class) → ForTargets g d (λ targets. option_map number_of root ≡ root_by g targets (numbers_of roots) class.0 a.0)

-- what an attribute makes at nodes of a class, by the equations for these
abbrev pub created_for : List Class → AttributeSet → List Target → List (Option ClassId) → ClassId → AttrId → Option Created
created_for g known targets roots class a = created_at g known.attributes (root_by g targets (numbers_of roots)) class.0 a.0

-- what all attributes make at nodes of each class
abbrev pub made_for : List Class → AttributeSet → List Target → List (Option ClassId) → ℕ → List Created
made_for g known targets roots = made_of g known.attributes targets (numbers_of roots)

-- what all attributes make at nodes of class p was listed
abbrev pub ListsMade : List Class → AttributeSet → Dispatch → List (Option ClassId) → ClassId → Result (Vec Created Global) Memory → Type 0
ListsMade g known d roots p r = ForTargets g d (λ targets. IfOk r (λ list. list.items ≡ made_for g known targets roots p.0))

-- the rows have what is made at nodes of each class
abbrev pub HasMade : (ℕ → List Created) → List (Vec Created Global) → Type 0
HasMade made rows = (p : ℕ) (row : Vec Created Global) → slice_get rows p ≡ Some row → row.items ≡ made p

-- what all attributes make at nodes of each class was listed
abbrev pub ListsAllMade : List Class → AttributeSet → Dispatch → List (Option ClassId) → Result (Vec (Vec Created Global) Global) Memory → Type 0
ListsAllMade g known d roots r = ForTargets g d (λ targets. IfOk r (λ rows. HasMade (made_for g known targets roots) rows.items))

-- it holds of the targets of whatever equations the dispatch is for, and of whatever is made at nodes of each class, as the rows have it
abbrev pub ForMade : List Class → Dispatch → List (Vec Created Global) → (List Target → (ℕ → List Created) → Type 0) → Type 0
ForMade g d rows holds = ForTargets g d (λ targets. (made : ℕ → List Created) → HasMade made rows → holds targets made)

-- the classes are found of which a node may hang uncovered at a component of a node of class p
abbrev pub AddsHanging : List Class → Dispatch → Option AttrId → ClassId → Found → Found → Type 0
AddsHanging g d first p before after = ForTargets g d (λ targets. Adds (may_hang g (is_covered_for g targets first) p.0) before after)

-- the class of a root is found that is made at nodes of class p, if nothing covers it
abbrev pub AddsRoot : List Class → Dispatch → Option AttrId → ClassId → Created → Found → Found → Type 0
AddsRoot g d first p root before after = ForTargets g d (λ targets. Adds (λ c. is_root_of g (is_covered_for g targets first) p.0 c root) before after)

-- those of some roots are
abbrev pub AddsMade : List Class → Dispatch → Option AttrId → ClassId → List Created → Found → Found → Type 0
AddsMade g d first p made before after = ForTargets g d (λ targets. Adds (may_be_made g (is_covered_for g targets first) made p.0) before after)

-- the classes are found of which a node may hang uncovered at a node of class p, or be one of these roots
abbrev pub AddsFollowing : List Class → Dispatch → Option AttrId → ClassId → List Created → Found → Found → Type 0
AddsFollowing g d first p made before after = ForTargets g d (λ targets. Adds (may_follow g (is_covered_for g targets first) made p.0) before after)

-- the classes are marked of which there can be a node at which no equation gives a value to the inherited attributes of a name, by the first of them
abbrev pub MarksUncovered : List Class → Dispatch → Option AttrId → List (Vec Created Global) → Vec Bool Global → Type 0
MarksUncovered g d first rows marks =
    ForMade g d rows (λ targets made. (c : ℕ) → mark_at marks.items c ≡ is_uncovered g (is_covered_for g targets first) made c)

-- J7 or J8 of the attribute was noted at the place
abbrev pub NotesLacking : List Class → AttributeSet → Dispatch → List (Vec Created Global) → AttrId → Place → Option Broken → Option Broken → Type 0
NotesLacking g known d rows a place old new = ForMade g d rows (λ targets made. Notes (lacking g known.attributes targets made a.0 place) old new)

-- what the attributes lack was answered, whose names in the declarations stand at these places
abbrev pub EndsLacking : {T : Type 0} → List Class → AttributeSet → Dispatch → List (Vec Created Global) → List Place → Result T ReadFault → Type 0
EndsLacking g known d rows places r = ForMade g d rows (λ targets made. Ends (each_from (lacking g known.attributes targets made) 0 places) r)

-- what the phase of completeness gives, where the equations make roots of these classes, and the names in the declarations stand at these places
abbrev pub EndsComplete : {T : Type 0} → List Class → AttributeSet → Dispatch → List (Option ℕ) → List Place → Result T ReadFault → Type 0
EndsComplete g known d roots places r = ForTargets g d (λ targets. Ends (complete_broken g known.attributes targets roots places) r)

-- the same of equations and declarations as they are kept
abbrev pub EndsWritten : {T : Type 0} → List Class → AttributeSet → Dispatch → List kept_given.Given → List kept_head.Head → Result T ReadFault → Type 0
EndsWritten g known d equations heads r = EndsComplete g known d (roots_of g (map seen_given equations)) (places_of (map seen_head heads)) r
