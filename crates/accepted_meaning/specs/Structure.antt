-- What the texts and scopes of a sound run are like: where the parts of a scope's block stand, where a variable is declared and
-- defined, what it reads, that reads and calls end, and the values of constants and tags.
use Rattle.std.specs.Prelude.{◌≡◌, ℕ, ◌<◌, true, false, ◌==◌, List, [], ◌∷◌, ◌++◌, length, map, Contains, Some, slice_get, slice_index_or}
use Rattle.std.specs.List.{find, flat_map}
use Rattle.hept_ast.specs.Texts.{Name, is_in, names, place_in, const_value, tag_value, branch_of, state_named}
use Rattle.hept_ast.specs.Scopes.{Clock, Text, Written, Scope, Top, Called, In_branch, In_body, In_state, block_of, declared_in, declares, home, inputs_of, local_decls, output_decls, text_of}
use Rattle.hept_ast.specs.Parts.{Surroundings, Part, Block, Plain, Switch, Reset, Automaton, Transition, Placed, block_sets, branch_case, declaration, equation_case, parts, parts_of, seen_at, sets_of, state_case, strong_of_all}
use Rattle.hept_ast.specs.InnerParts.{state_names}
use Rattle.hept_ast.specs.Initial.{grade}
use Rattle.hept_ast.specs.Causal.{Reads, reads, reads_around}
use Rattle.hept_ast.specs.Meaning.{Defined, Defines, Is, Setting, Value, answer_to, call_of, clock_in, clock_seen, input_at, own_rule}
use Rattle.hept_ast.specs.Outputs.{Knows}
use Rattle.hept_ast.specs.Types.{Fits, Plain_type, call_fit, future_of, has_tags, type_of_const, types_of}
use Rattle.hept_ast.specs.Faults.{calls_of, node_named}
use Rattle.hept_ast.specs.declared.tree.Ty.{Ty}
use Rattle.hept_ast.specs.declared.tree.Tag.{Tag}
use Rattle.hept_ast.specs.declared.tree.Decl.{Decl}
use Rattle.hept_ast.specs.declared.tree.Node.{Node}
use Rattle.hept_ast.specs.declared.tree.Expr.{Expr}
use Rattle.hept_ast.specs.declared.tree.TypeDec.{TypeDec}
use Rattle.hept_ast.specs.declared.tree.Const.{Const as Constant}
use Rattle.hept_ast.specs.declared.tree.Block as tree
use Rattle.hept_ast.specs.declared.tree.Branch.{Branch}
use Rattle.hept_ast.specs.declared.tree.State.{State}
use Rattle.hept_ast.specs.declared.tree.Escape.{Escape}
use Rattle.hept_ast.specs.declared.tree.MergeBranch.{MergeBranch}
use Rattle.hept_ast.specs.declared.tree.Equation.{Equation, out-Equation}
use Rattle.hept_ast.specs.declared.tree.Equation.TheOpen.{Equation-F}
use Rattle.hept_ast.specs.declared.tree.Form.{out-Form}
use Rattle.hept_ast.specs.declared.tree.Form.TheOpen.{Form-F}
use Rattle.hept_ast.specs.Stages.{ClockedProgram}
use Rattle.hept_ast.specs.declared.name.Place.{Place}
use Rattle.hept_ast.specs.TypedValues.{FitsConst, IsValueOf, RowsFit, plain_count}
use Rattle.sound_expressions.specs.Sound.{AreAllTags, IsTagOf, Sees, Sound, SoundArguments, Within, branch_tags}
use Rattle.accepted_meaning.specs.SoundNodes.{SoundPart}
use Rattle.accepted_meaning.specs.Placing.{site_of}
use Rattle.accepted_meaning.specs.Running.{IsNodeOf, Run, StandsIn, setting_of}

-- ---- 1. the parts of a scope's block are parts of its node

-- an equation of the block of a scope that stands in a node
pub record IsEquationOf (r : Run) (k : Within) (s : Scope) (e : Equation) : Type 0 where
  pub stands : StandsIn r k s
  pub in_block : Contains (block_of s).body e

abbrev pub HasPart : Within → Surroundings → Part → Type 0
HasPart k site part = Contains (parts k.node) (record { site = site; part = part })

-- what the block of a scope has to define
abbrev pub defined_in : Scope → List Decl
defined_in (Top text) = output_decls text ++ local_decls text
defined_in (Called s clock place args text) = output_decls text ++ local_decls text
defined_in s = declared_in s

abbrev pub PartsOfScope : Run → Type 0
PartsOfScope r = (k : Within) (s : Scope) (e : Equation) (q : Placed) → IsEquationOf r k s e → Contains (parts_of (site_of s) e) q → Contains (parts k.node) q

abbrev pub BlockOfScope : Run → Type 0
BlockOfScope r = (k : Within) (s : Scope) → StandsIn r k s → HasPart k (site_of s) (Block (defined_in s) (map equation_case (block_of s).body))

-- what is known of an equation of a scope's block, form by form
abbrev pub SoundDefine : Run → Type 0
SoundDefine r = (k : Within) (s : Scope) (e : Equation) (p : Place) (left : List Name) (right : Expr) →
    IsEquationOf r k s e → out-Equation e ≡ Equation-F.Define p left right → SoundPart k (site_of s) (Plain p.0 left right)

abbrev pub SoundSwitchOf : Run → Type 0
SoundSwitchOf r = (k : Within) (s : Scope) (e : Equation) (p : Place) (on : Expr) (branches : List Branch) →
    IsEquationOf r k s e → out-Equation e ≡ Equation-F.Switch p on branches → SoundPart k (site_of s) (Switch p.0 on (map branch_case branches))

abbrev pub SoundResetOf : Run → Type 0
SoundResetOf r = (k : Within) (s : Scope) (e : Equation) (p : Place) (block : tree.Block) (every : Expr) →
    IsEquationOf r k s e → out-Equation e ≡ Equation-F.Reset p block every → SoundPart k (site_of s) (Reset p.0 every (block_sets block))

abbrev pub SoundAutomatonOf : Run → Type 0
SoundAutomatonOf r = (k : Within) (s : Scope) (e : Equation) (p : Place) (states : List State) →
    IsEquationOf r k s e → out-Equation e ≡ Equation-F.Automaton p states → SoundPart k (site_of s) (Automaton p.0 (map state_case states))

-- weak conditions stand in their state, strong ones around the automaton's states
abbrev pub SoundWeakOf : Run → Type 0
SoundWeakOf r = (k : Within) (s : Scope) (e : Equation) (p : Place) (states : List State) (j : ℕ) (q : State) (go : Escape) →
    IsEquationOf r k s e → out-Equation e ≡ Equation-F.Automaton p states → slice_get states j ≡ Some q → Contains q.weak go →
    SoundPart k (site_of (In_state s states j)) (Transition false (state_names states) go)

abbrev pub SoundStrongOf : Run → Type 0
SoundStrongOf r = (k : Within) (s : Scope) (e : Equation) (p : Place) (states : List State) (j : ℕ) (q : State) (go : Escape) →
    IsEquationOf r k s e → out-Equation e ≡ Equation-F.Automaton p states → slice_get states j ≡ Some q → Contains q.strong go →
    SoundPart k (site_of s) (Transition true (state_names states) go)

-- the scopes around one stand in the same node
abbrev pub BranchOutside : Run → Type 0
BranchOutside r = (k : Within) (s : Scope) (on : Expr) (b : Branch) → StandsIn r k (In_branch s on b) →
    (e : Equation) × (p : Place) × (branches : List Branch) × IsEquationOf r k s e × (out-Equation e ≡ Equation-F.Switch p on branches) × Contains branches b

abbrev pub BodyOutside : Run → Type 0
BodyOutside r = (k : Within) (s : Scope) (every : Expr) (block : tree.Block) → StandsIn r k (In_body s every block) →
    (e : Equation) × (p : Place) × IsEquationOf r k s e × (out-Equation e ≡ Equation-F.Reset p block every)

abbrev pub StateOutside : Run → Type 0
StateOutside r = (k : Within) (s : Scope) (states : List State) (j : ℕ) → StandsIn r k (In_state s states j) →
    (e : Equation) × (p : Place) × (q : State) × IsEquationOf r k s e × (out-Equation e ≡ Equation-F.Automaton p states) × (slice_get states j ≡ Some q)

-- ---- 2. clocks of what is seen

-- a seen variable has there the clock that it has where it is declared
abbrev pub ClockOfSeen : Type 0
ClockOfSeen = (k : Within) (site : Surroundings) (x : Name) (d : Decl) (c : Clock) → Sees k site x d c → k.clock x ≡ c

abbrev pub ClockInText : Run → Type 0
ClockInText r = (k : Within) (s : Scope) (x : Name) → StandsIn r k s → clock_in (setting_of r) (text_of s) x ≡ k.clock x

abbrev pub ClockHere : Run → Type 0
ClockHere r = (k : Within) (s : Scope) (x : Name) (d : Decl) (c : Clock) → StandsIn r k s → Sees k (site_of s) x d c → clock_seen (setting_of r) x s ≡ c

-- ---- 3. the scope that declares a variable, and those from there in

-- a variable that is declared in a scope of its own node, and is seen in a scope there or further in: each scope between sees it too;
-- inside a branch or a state it is on the base clock
pub data IsSeenFrom (r : Run) (k : Within) (x : Name) (d : Decl) (c : Clock) : (home : Scope) → Scope → Type 0 where
  at_home : {h : Scope} → StandsIn r k h → home x h ≡ h → declares h x ≡ true → declaration (declared_in h) x ≡ Some d → Sees k (site_of h) x d c → IsSeenFrom r k x d c h h
  in_branch : {h s : Scope} {on : Expr} {b : Branch} → IsSeenFrom r k x d c h s → StandsIn r k (In_branch s on b) → home x (In_branch s on b) ≡ h →
      Sees k (site_of (In_branch s on b)) x d c → c ≡ [] → IsSeenFrom r k x d c h (In_branch s on b)
  in_body : {h s : Scope} {every : Expr} {block : tree.Block} → IsSeenFrom r k x d c h s → StandsIn r k (In_body s every block) → home x (In_body s every block) ≡ h →
      Sees k (site_of (In_body s every block)) x d c → IsSeenFrom r k x d c h (In_body s every block)
  in_state : {h s : Scope} {states : List State} {j : ℕ} → IsSeenFrom r k x d c h s → StandsIn r k (In_state s states j) → home x (In_state s states j) ≡ h →
      Sees k (site_of (In_state s states j)) x d c → c ≡ [] → IsSeenFrom r k x d c h (In_state s states j)

abbrev pub SeenFromHome : Run → Type 0
SeenFromHome r = (k : Within) (s : Scope) (x : Name) (d : Decl) (c : Clock) → StandsIn r k s → Sees k (site_of s) x d c → IsSeenFrom r k x d c (home x s) s

-- where a variable is declared
pub record IsHome (r : Run) (k : Within) (x : Name) (d : Decl) (c : Clock) (h : Scope) : Type 0 where
  pub stands : StandsIn r k h
  pub itself : home x h ≡ h
  pub declares : declares h x ≡ true
  pub declared : declaration (declared_in h) x ≡ Some d
  pub sees : Sees k (site_of h) x d c
  pub clock : clock_in (setting_of r) (text_of h) x ≡ c

abbrev pub HomeOf : Run → Type 0
HomeOf r = (k : Within) (s : Scope) (x : Name) (d : Decl) (c : Clock) → StandsIn r k s → Sees k (site_of s) x d c → IsHome r k x d c (home x s)

-- an input of the node, or what an equation of the block defines
pub data HasSource (k : Within) (x : Name) : Scope → Type 0 where
  top_input : {text : Text} → is_in x (inputs_of text) ≡ true → HasSource k x (Top text)
  called_input : {s : Scope} {clock : Clock} {place : ℕ} {args : List Expr} {text : Text} → is_in x (inputs_of text) ≡ true → HasSource k x (Called s clock place args text)
  by_equation : {h : Scope} {e : Equation} → is_in x (inputs_of (text_of h)) ≡ false → Contains (block_of h).body e → is_in x (sets_of e) ≡ true → HasSource k x h

abbrev pub SourceOf : Run → Type 0
SourceOf r = (k : Within) (h : Scope) (x : Name) (d : Decl) (c : Clock) → IsHome r k x d c h → HasSource k x h

abbrev pub RuleOfDefined : Run → Type 0
RuleOfDefined r = (k : Within) (h : Scope) (x : Name) (t : ℕ) → StandsIn r k h → is_in x (inputs_of (text_of h)) ≡ false → own_rule (setting_of r) h x t ≡ answer_to (Defined x h t)

-- ---- 4. what defines a variable

-- a variable that is seen where an equation stands: whether the equation defines it is known
abbrev pub DefinesIs : Run → Type 0
DefinesIs r = (k : Within) (s : Scope) (e : Equation) (x : Name) (d : Decl) (w : Setting) (rows : List (List ℕ)) →
    IsEquationOf r k s e → declaration (seen_at k.node (site_of s)) x ≡ Some d → Knows w rows (Defines x e) (Is (is_in x (sets_of e)))

-- no block inside an equation declares what is seen where it stands
abbrev pub IsNotLocal : Name → tree.Block → Type 0
IsNotLocal x block = (is_in x (names block.locals) ≡ false) × (is_in x (block_sets block) ≡ is_in x (flat_map sets_of block.body))

abbrev pub NotLocalInBranch : Run → Type 0
NotLocalInBranch r = (k : Within) (s : Scope) (e : Equation) (p : Place) (on : Expr) (branches : List Branch) (b : Branch) (x : Name) (d : Decl) →
    IsEquationOf r k s e → out-Equation e ≡ Equation-F.Switch p on branches → Contains branches b → declaration (seen_at k.node (site_of s)) x ≡ Some d → IsNotLocal x b.block

abbrev pub NotLocalInBody : Run → Type 0
NotLocalInBody r = (k : Within) (s : Scope) (e : Equation) (p : Place) (block : tree.Block) (every : Expr) (x : Name) (d : Decl) →
    IsEquationOf r k s e → out-Equation e ≡ Equation-F.Reset p block every → declaration (seen_at k.node (site_of s)) x ≡ Some d → IsNotLocal x block

abbrev pub NotLocalInState : Run → Type 0
NotLocalInState r = (k : Within) (s : Scope) (e : Equation) (p : Place) (states : List State) (j : ℕ) (q : State) (x : Name) (d : Decl) →
    IsEquationOf r k s e → out-Equation e ≡ Equation-F.Automaton p states → slice_get states j ≡ Some q → declaration (seen_at k.node (site_of s)) x ≡ Some d → IsNotLocal x q.block

-- what is seen where an equation stands is seen inside, in a branch or a state if it is on the base clock
abbrev pub SeesInBranch : Run → Type 0
SeesInBranch r = (k : Within) (s : Scope) (e : Equation) (p : Place) (on : Expr) (branches : List Branch) (b : Branch) (x : Name) (d : Decl) →
    IsEquationOf r k s e → out-Equation e ≡ Equation-F.Switch p on branches → Contains branches b → Sees k (site_of s) x d [] → Sees k (site_of (In_branch s on b)) x d []

abbrev pub SeesInBody : Run → Type 0
SeesInBody r = (k : Within) (s : Scope) (e : Equation) (p : Place) (block : tree.Block) (every : Expr) (x : Name) (d : Decl) (c : Clock) →
    IsEquationOf r k s e → out-Equation e ≡ Equation-F.Reset p block every → Sees k (site_of s) x d c → Sees k (site_of (In_body s every block)) x d c

abbrev pub SeesInState : Run → Type 0
SeesInState r = (k : Within) (s : Scope) (e : Equation) (p : Place) (states : List State) (j : ℕ) (q : State) (x : Name) (d : Decl) →
    IsEquationOf r k s e → out-Equation e ≡ Equation-F.Automaton p states → slice_get states j ≡ Some q → Sees k (site_of s) x d [] → Sees k (site_of (In_state s states j)) x d []

-- a plain equation inside an equation that stands at a site
pub record HasPlain (k : Within) (site : Surroundings) (e : Equation) (x : Name) : Type 0 where
  pub inner : Surroundings
  pub place : ℕ
  pub left : List Name
  pub right : Expr
  pub within : Contains (parts_of site e) (record { site = inner ++ site; part = Plain place left right })
  pub of_node : HasPart k (inner ++ site) (Plain place left right)
  pub defines : is_in x left ≡ true

abbrev pub PlainOf : Run → Type 0
PlainOf r = (k : Within) (s : Scope) (e : Equation) (x : Name) → IsEquationOf r k s e → is_in x (sets_of e) ≡ true → HasPlain k (site_of s) e x

-- a variable of grade 0 has right sides of grade 0
abbrev pub GradeOfRight : Run → Type 0
GradeOfRight r = (k : Within) (s : Scope) (e : Equation) (p : Place) (left : List Name) (right : Expr) (x : Name) →
    IsEquationOf r k s e → out-Equation e ≡ Equation-F.Define p left right → is_in x left ≡ true → k.grade x ≡ false → grade k.grade right.form ≡ false

-- what a variable reads that an equation defines
abbrev pub ReadsRight : Run → Type 0
ReadsRight r = (k : Within) (s : Scope) (e : Equation) (p : Place) (left : List Name) (right : Expr) (x y : Name) →
    IsEquationOf r k s e → out-Equation e ≡ Equation-F.Define p left right → is_in x left ≡ true → is_in y (reads right.form) ≡ true → Reads k.node k.clock x y

abbrev pub ReadsOn : Run → Type 0
ReadsOn r = (k : Within) (s : Scope) (e : Equation) (p : Place) (on : Expr) (branches : List Branch) (x y : Name) →
    IsEquationOf r k s e → out-Equation e ≡ Equation-F.Switch p on branches → is_in x (sets_of e) ≡ true → is_in y (reads on.form) ≡ true → Reads k.node k.clock x y

abbrev pub ReadsEvery : Run → Type 0
ReadsEvery r = (k : Within) (s : Scope) (e : Equation) (p : Place) (block : tree.Block) (every : Expr) (x y : Name) →
    IsEquationOf r k s e → out-Equation e ≡ Equation-F.Reset p block every → is_in x (sets_of e) ≡ true → is_in y (reads every.form) ≡ true → Reads k.node k.clock x y

abbrev pub ReadsStrong : Run → Type 0
ReadsStrong r = (k : Within) (s : Scope) (e : Equation) (p : Place) (states : List State) (x y : Name) →
    IsEquationOf r k s e → out-Equation e ≡ Equation-F.Automaton p states → is_in x (sets_of e) ≡ true → is_in y (flat_map (λ c. reads c.form) (strong_of_all states)) ≡ true →
    Reads k.node k.clock x y

abbrev pub ReadsAround : Run → Type 0
ReadsAround r = (k : Within) (s : Scope) (e : Equation) (x y : Name) →
    IsEquationOf r k s e → is_in x (sets_of e) ≡ true → is_in y (flat_map reads_around (site_of s)) ≡ true → Reads k.node k.clock x y

abbrev pub ReadsClock : Type 0
ReadsClock = (k : Within) (x y : Name) → is_in y (map (λ s. s.name) (k.clock x)) ≡ true → Reads k.node k.clock x y

-- ---- 5. reads end

-- no chain of R goes on from x without end
pub data Accessible {A : Type 0} (R : A → A → Type 0) : A → Type 0 where
  reach : {x : A} → ((y : A) → R x y → Accessible R y) → Accessible R x

abbrev pub ReadsEnd : Run → Type 0
ReadsEnd r = (k : Within) (n : ℕ) (x : Name) → IsNodeOf r k n → Accessible (Reads k.node k.clock) x

-- ---- 6. calls end

-- a node's text calls a node
abbrev pub CallsNode : List Node → Name → Name → Type 0
CallsNode nodes f g = is_in g (calls_of (node_named nodes f)) ≡ true

abbrev pub CallsEnd : Run → Type 0
CallsEnd r = (f : Name) → Accessible (CallsNode r.program.program.nodes) f

abbrev pub NodeOfName : Run → Type 0
NodeOfName r = (n : ℕ) (node : Node) → slice_get r.program.program.nodes n ≡ Some node → node_named r.program.program.nodes node.name ≡ Some node

-- a call in a scope, with the called node
pub record IsCallIn (r : Run) (k : Within) (s : Scope) (e : Expr) (c : Clock) (args : List Expr) (text : Text) (callee : Within) : Type 0 where
  pub number : ℕ
  pub given : List (List Ty)
  pub text_is : text ≡ Written number callee.node
  pub call : call_of (setting_of r) (out-Form e.form) ≡ Some (args, text)
  pub stands : StandsIn r callee (Called s c e.place.0 args text)
  pub arguments : SoundArguments k (site_of s) args c given
  pub fits : call_fit callee.node given ≡ Fits (types_of callee.node.outputs)
  pub calls : CallsNode r.program.program.nodes k.node.name callee.node.name

abbrev pub CallOf : Run → Type 0
CallOf r = (k : Within) (s : Scope) (e : Expr) (c : Clock) (ts : List Ty) (f : Name) (args : List Expr) →
    StandsIn r k s → Sound k (site_of s) e c ts → out-Form e.form ≡ Form-F.Call f args →
    (text : Text) × (callee : Within) × IsCallIn r k s e c args text callee × (ts ≡ types_of callee.node.outputs)

abbrev pub AsyncCallOf : Run → Type 0
AsyncCallOf r = (k : Within) (s : Scope) (e : Expr) (c : Clock) (ts : List Ty) (q : ℕ) (f : Name) (args : List Expr) →
    StandsIn r k s → Sound k (site_of s) e c ts → out-Form e.form ≡ Form-F.AsyncCall q f args →
    (text : Text) × (callee : Within) × IsCallIn r k s e c args text callee × (ts ≡ map future_of (types_of callee.node.outputs))

-- the call that a called node's body stands in
abbrev pub CallerOf : Run → Type 0
CallerOf r = (callee : Within) (s : Scope) (c : Clock) (place : ℕ) (args : List Expr) (text : Text) → StandsIn r callee (Called s c place args text) →
    (k : Within) × (e : Expr) × (ts : List Ty) × StandsIn r k s × Sound k (site_of s) e c ts × IsCallIn r k s e c args text callee × (e.place.0 ≡ place)

-- what a called node's input is given
abbrev pub ArgumentOf : Run → Type 0
ArgumentOf r = (k callee : Within) (s : Scope) (e : Expr) (c own : Clock) (args : List Expr) (text : Text) (x : Name) (d : Decl) →
    IsCallIn r k s e c args text callee → is_in x (inputs_of text) ≡ true → Sees callee [] x d own →
    (arg : Expr) × (slice_get args (place_in x (inputs_of text)) ≡ Some arg) × Contains args arg × Sound k (site_of s) arg c (d.ty ∷ []) × (grade k.grade arg.form ≡ false)

-- inputs and outputs are on the base clock and never undefined
abbrev pub InputOf : Run → Type 0
InputOf r = (k : Within) (n : ℕ) (x : Name) (d : Decl) (c : Clock) → IsNodeOf r k n → is_in x (names k.node.inputs) ≡ true → Sees k [] x d c →
    (c ≡ []) × (k.grade x ≡ false) × (slice_get k.node.inputs (place_in x (names k.node.inputs)) ≡ Some d)

abbrev pub OutputOf : Run → Type 0
OutputOf r = (k : Within) (n j : ℕ) (d : Decl) → IsNodeOf r k n → slice_get k.node.outputs j ≡ Some d →
    Sees k [] d.name d [] × (k.grade d.name ≡ false) × (slice_index_or (names k.node.outputs) j [] ≡ d.name)

-- ---- 7. values of constants, tags and inputs

abbrev pub ConstantFits : ClockedProgram → Type 0
ConstantFits c = (v : Constant) (t : Plain_type) → FitsConst v → type_of_const c.program.types v ≡ Some t → const_value c.program.types v < plain_count c.program.types t

abbrev pub TagFits : ClockedProgram → Type 0
TagFits c = (tag : Tag) (t : Ty) → IsTagOf c.program.types tag t → IsValueOf c.program.types t (tag_value c.program.types tag)

-- two tags of a type are equal if their values are
abbrev pub TagsDiffer : ClockedProgram → Type 0
TagsDiffer c = (a b : Tag) (t : Ty) → IsTagOf c.program.types a t → IsTagOf c.program.types b t → tag_value c.program.types a ≡ tag_value c.program.types b → a ≡ b

-- the branch of a value
abbrev pub BranchOfValue : ClockedProgram → Type 0
BranchOfValue c = (t : Ty) (v : ℕ) (branches : List Branch) → has_tags t ≡ true → AreAllTags c.program.types t (map (λ q. q.label) (map branch_case branches)) → IsValueOf c.program.types t v →
    (b : Branch) × (branch_of c.program.types v branches ≡ Some b) × Contains branches b × (tag_value c.program.types b.tag ≡ v)

abbrev pub MergeOfValue : ClockedProgram → Type 0
MergeOfValue c = (t : Ty) (v : ℕ) (branches : List MergeBranch) → has_tags t ≡ true → AreAllTags c.program.types t (branch_tags branches) → IsValueOf c.program.types t v →
    (b : MergeBranch) × (find (λ m. tag_value c.program.types m.tag == v) branches ≡ Some b) × Contains branches b × (tag_value c.program.types b.tag ≡ v)

-- the state of a name
abbrev pub StateOfName : Type 0
StateOfName = (x : Name) (states : List State) → is_in x (state_names states) ≡ true → state_named x states < length states

-- an input of a row
abbrev pub InputAt : Type 0
InputAt = (types : List TypeDec) (ds : List Decl) (rows : List (List ℕ)) (t j : ℕ) (d : Decl) → RowsFit types ds rows → t < length rows → slice_get ds j ≡ Some d →
    (v : ℕ) × (input_at rows t j ≡ Value v) × IsValueOf types d.ty v
