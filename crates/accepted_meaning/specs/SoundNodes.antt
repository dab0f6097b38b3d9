-- What the parts of a node of an accepted program are like.
use Rattle.std.specs.Prelude.{◌≡◌, ◌⊎◌, ℕ, ⊤, true, false, List, [], ◌∷◌, ◌++◌, map, Contains, Option, Some, None, is_some, slice_get}
use Rattle.std.specs.List.{flat_map}
use Rattle.hept_ast.specs.Texts.{Name, is_in, names}
use Rattle.hept_ast.specs.Scopes.{Clock}
use Rattle.hept_ast.specs.Parts.{Case, Part, Block, Plain, Switch, Reset, Automaton, Transition, Placed, Surroundings, parts, seen_at, declaration, variables}
use Rattle.hept_ast.specs.Clocks.{own_names}
use Rattle.hept_ast.specs.Initial.{Grades, grade, AreGrades}
use Rattle.hept_ast.specs.Causal.{HasNoCycle, Reads}
use Rattle.hept_ast.specs.ClockMaps.{clock_in}
use Rattle.hept_ast.specs.Stages.{ClockedProgram}
use Rattle.hept_ast.specs.Types.{Plain_type, bool, has_tags, type_of_const}
use Rattle.hept_ast.specs.declared.tree.Node.{Node}
use Rattle.hept_ast.specs.declared.tree.Decl.{Decl}
use Rattle.hept_ast.specs.declared.tree.Init.{Init}
use Rattle.hept_ast.specs.declared.tree.Expr.{Expr}
use Rattle.hept_ast.specs.declared.tree.Tag.{Tag}
use Rattle.hept_ast.specs.declared.tree.Ty.{Ty}
use Rattle.hept_ast.specs.declared.tree.Ty.TheVariants as ty
use Rattle.hept_ast.specs.TypedValues.{FitsConst}
use Rattle.sound_expressions.specs.Demands.{NamesDiffer, NoTagTwice}
use Rattle.sound_expressions.specs.Sound.{Within, Sees, Sound, IsTagOf, AreAllTags}

-- the constant of a `last` declaration is one of its type; the variable is on the base clock and is never undefined
pub record SoundLast (k : Within) (d : Decl) (i : Init) : Type 0 where
  pub plain : Plain_type
  pub known : type_of_const k.types i.value ≡ Some plain
  pub number : FitsConst i.value
  pub fits : (d.ty ≡ ty.Plain plain) ⊎ (d.ty ≡ ty.Future plain)
  pub base : k.clock d.name ≡ []
  pub defined : k.grade d.name ≡ false

abbrev pub SoundInit : Within → Decl → Option Init → Type 0
SoundInit k d None = ⊤
SoundInit k d (Some i) = SoundLast k d i

-- each name on a left side is seen on the clock of the right side, one for each type that it gives
pub data SoundLeft (k : Within) (site : Surroundings) (c : Clock) : List Name → List Ty → Type 0 where
  no_left : SoundLeft k site c [] []
  a_left : {x : Name} {xs : List Name} {d : Decl} {ts : List Ty} → Sees k site x d c → is_in x (names k.node.inputs) ≡ false →
      SoundLeft k site c xs ts → SoundLeft k site c (x ∷ xs) (d.ty ∷ ts)

abbrev pub all_sets : {A : Type 0} → List (Case A) → List Name
all_sets cases = flat_map (λ c. c.sets) cases

-- what one case defines each case defines, or the variable has a last value
abbrev pub HasNoGap : {A : Type 0} → Within → Surroundings → List (Case A) → Type 0
HasNoGap {A} k site cases =
    (c : Case A) (x : Name) → Contains cases c → is_in x (all_sets cases) ≡ true →
    (is_in x c.sets ≡ true) ⊎ ((d : Decl) × (declaration (seen_at k.node site) x ≡ Some d) × (is_some d.init ≡ true))

-- what cases define of what is seen outside is on the base clock and never undefined
abbrev pub AreSoundCases : {A : Type 0} → Within → Surroundings → List (Case A) → Type 0
AreSoundCases k site cases =
    ((x : Name) (d : Decl) → is_in x (all_sets cases) ≡ true → declaration (seen_at k.node site) x ≡ Some d → (k.clock x ≡ []) × (k.grade x ≡ false)) × HasNoGap k site cases

pub record SoundSwitch (k : Within) (site : Surroundings) (on : Expr) (cases : List (Case Tag)) : Type 0 where
  pub type : Ty
  pub sound : Sound k site on [] (type ∷ [])
  pub tagged : has_tags type ≡ true
  pub defined : grade k.grade on.form ≡ false
  pub tags : (c : Case Tag) → Contains cases c → IsTagOf k.types c.label type
  pub all : AreAllTags k.types type (map (λ c. c.label) cases)
  pub once : NoTagTwice (map (λ c. c.label) cases)
  pub sound_cases : AreSoundCases k site cases

pub record SoundCondition (k : Within) (site : Surroundings) (e : Expr) : Type 0 where
  pub sound : Sound k site e [] bool
  pub defined : grade k.grade e.form ≡ false

abbrev pub SoundPart : Within → Surroundings → Part → Type 0
SoundPart k site (Block ds equations) = ((d : Decl) → Contains ds d → SoundInit k d d.init × (is_in d.name (all_sets equations) ≡ true))
SoundPart k site (Plain p left right) = (c : Clock) × (ts : List Ty) × Sound k site right c ts × SoundLeft k site c left ts
SoundPart k site (Switch p on cases) = SoundSwitch k site on cases
SoundPart k site (Reset p every sets) = SoundCondition k site every × ((x : Name) (d : Decl) → is_in x sets ≡ true → declaration (seen_at k.node site) x ≡ Some d → k.grade x ≡ false)
SoundPart k site (Automaton p cases) = AreSoundCases k site cases
SoundPart k site (Transition strong states e) = SoundCondition k site e.condition × (is_in e.target states ≡ true)

-- an input or output is on the base clock and never undefined
abbrev pub SoundInterface : Within → Decl → Type 0
SoundInterface k d = (k.clock d.name ≡ []) × (k.grade d.name ≡ false) × SoundInit k d d.init

-- a variable that is seen and never undefined, on a clock, at a part which has a variable of its own in common with a site, so that both stand in one block up to reset bodies
pub record IsSeenBeside (k : Within) (site : Surroundings) (z : Name) (c : Clock) : Type 0 where
  pub at : Placed
  pub of_node : Contains (parts k.node) at
  pub shared : Name
  pub here : is_in shared (own_names k.node site) ≡ true
  pub there : is_in shared (own_names k.node at.site) ≡ true
  pub decl : Decl
  pub sees : Sees k at.site z decl c
  pub defined : k.grade z ≡ false

-- each step of a clock names a variable that is seen beside a site, on the clock of the steps before
abbrev pub AreSeenBeside : Within → Surroundings → (before : Clock) → Clock → Type 0
AreSeenBeside k site before [] = ⊤
AreSeenBeside k site before (step ∷ steps) = IsSeenBeside k site step.name before × AreSeenBeside k site (before ++ step ∷ []) steps

-- so does each step of the clock of a variable that a site has of its own
abbrev pub AreStepsSeen : Within → Type 0
AreStepsSeen k = (q : Placed) (y : Name) → Contains (parts k.node) q → is_in y (own_names k.node q.site) ≡ true → AreSeenBeside k q.site [] (k.clock y)

pub record SoundNode (k : Within) : Type 0 where
  pub once : NamesDiffer (names (variables k.node))
  pub grades : AreGrades k.node k.grade
  pub inputs : (d : Decl) → Contains k.node.inputs d → SoundInterface k d
  pub outputs : (d : Decl) → Contains k.node.outputs d → SoundInterface k d
  pub sound_parts : (q : Placed) → Contains (parts k.node) q → SoundPart k q.site q.part
  pub acyclic : HasNoCycle (Reads k.node k.clock)
  pub steps : AreStepsSeen k

-- a node of a program with clocks, by its position, and some grades
abbrev pub within : ClockedProgram → (number : ℕ) → Node → Grades → Within
within c n node g = record { types = c.program.types; nodes = c.program.nodes; node = node; clock = clock_in c.clocks n; grade = g }

-- types, constructors and nodes have different names, and each node is sound, for some grades
pub record SoundProgram (c : ClockedProgram) : Type 0 where
  pub types : NamesDiffer (map (λ d. d.name) c.program.types)
  pub constructors : NamesDiffer (flat_map (λ d. d.constructors) c.program.types)
  pub nodes : NamesDiffer (map (λ n. n.name) c.program.nodes)
  pub sound_nodes : (n : ℕ) (node : Node) → slice_get c.program.nodes n ≡ Some node → (g : Grades) × SoundNode (within c n node g)
