-- What links a plan to a node of a core in normal form and in order, by cases, over the node's expanded text.
use Rattle.std.specs.Prelude.{◌≡◌, ℕ, zero, suc, ◌+◌, ◌-◌, ◌<◌, ◌==◌, Bool, true, false, List, [], ◌∷◌, ◌++◌, length, map, take, Option, Some, None, slice_get, slice_index_or}
use Rattle.std.specs.List.{list_any}
use Rattle.hept_ast.specs.Texts.{Name, is_in, names, place_in, const_value, tag_value}
use Rattle.hept_ast.specs.Scopes.{Clock, Text, Lowered, Scope, Top, Called, Under, equation_of, outputs_of}
use Rattle.hept_ast.specs.Meaning.{clock_of_equation}
use Rattle.hept_ast.specs.Sites.{Site}
use Rattle.hept_ast.specs.declared.tree.TypeDec.{TypeDec}
use Rattle.hept_ast.specs.declared.tree.CoreNode.{CoreNode}
use Rattle.hept_ast.specs.declared.tree.CoreEquation.{CoreEquation}
use Rattle.hept_ast.specs.declared.tree.ClockStep.{ClockStep}
use Rattle.hept_ast.specs.declared.tree.Const.{Const}
use Rattle.hept_ast.specs.declared.tree.Tag.{Tag}
use Rattle.hept_ast.specs.declared.tree.UnaryOp.{UnaryOp}
use Rattle.hept_ast.specs.declared.tree.BinaryOp.{BinaryOp}
use Rattle.hept_ast.specs.declared.tree.Expr.{Expr}
use Rattle.hept_ast.specs.declared.tree.MergeBranch.{MergeBranch}
use Rattle.hept_ast.specs.declared.tree.Form.{out-Form}
use Rattle.hept_ast.specs.declared.tree.Form.TheOpen.{Form-F}
use Rattle.step_plans.specs.Things.{Thing, Here, Named, Part, Result, Again, Seen, Left, Branch_of, Memory, Value_of, Presence_of, initial_of}
use Rattle.step_plans.specs.Operations.{Register, In_values, In_futures, Operation, Number_is, Unary_of, Binary_of, Divided_by, Chosen_by, Flag_of, Again_of, Cell_at, Cell_unless, operation_of, future_operation_of, Storing, Taken_always, Taken_where, Taken_unless, storing_of, future_storing_of, register_of}
use Rattle.step_plans.specs.declared.instruction.Instruction.{Instruction}
use Rattle.step_plans.specs.declared.instruction.FutureInstruction.{FutureInstruction}
use Rattle.step_plans.specs.declared.instruction.Store.{Store}
use Rattle.step_plans.specs.declared.action.Source.{Source}
use Rattle.step_plans.specs.declared.action.Action.{Action}
use Rattle.step_plans.specs.declared.action.Action.TheVariants as act
use Rattle.step_plans.specs.declared.action.Offering.{Offering}
use Rattle.step_plans.specs.declared.plan.NodePlan.{NodePlan}

-- ---- what is known of registers

pub data Entry : Type 0 where
  At : Thing → Register → Entry

-- a register stands for a thing; one register may stand for several
pub data Has : List Entry → Thing → Register → Type 0 where
  newest : {thing : Thing} {r : Register} {entries : List Entry} → Has (At thing r ∷ entries) thing r
  older : {thing : Thing} {r : Register} {entry : Entry} {entries : List Entry} → Has entries thing r → Has (entry ∷ entries) thing r

-- the body of a node, of the chosen one or of one that is called
abbrev pub IsBodyOf : Scope → CoreNode → Type 0
IsBodyOf (Top text) node = text ≡ Lowered node
IsBodyOf (Called s clock place args text) node = text ≡ Lowered node
IsBodyOf _ node = ⊥

-- no reset stands around what is in the scope
pub data IsQuiet : Scope → Type 0 where
  quiet_top : {text : Text} → IsQuiet (Top text)
  quiet_call : {s : Scope} {c : Clock} {place : ℕ} {args : List Expr} {text : Text} → IsQuiet s → IsQuiet (Called s c place args text)
  quiet_equation : {s : Scope} → IsQuiet s → IsQuiet (Under s [])

-- a variable of a body that a clock or a reset names
pub data Tested : Type 0 where
  Tests : CoreNode → Name → Scope → Tested

-- a merge of a variable: its branches are to have all values that the variable has
pub data Covering : Type 0 where
  Covers : Name → Scope → List MergeBranch → Covering

-- a synchronous call
pub data Calling : Type 0 where
  Calls : Clock → Scope → (place : ℕ) → Calling

-- what a plan is made of: types, nodes, what is tested and called, and what the cells stand for: those of plain type, and those
-- of future type
pub record Ground : Type 0 where
  pub types : List TypeDec
  pub nodes : Name → Option Text
  pub tested : List Tested
  pub covered : List Covering
  pub calls : List Calling
  pub memories : List Memory
  pub future_memories : List Memory

-- the futures of a call, from this one on, for its first outputs
abbrev pub with_results : Expr → Clock → Scope → (first outputs : ℕ) → List Entry → List Entry
with_results e c s first zero entries = entries
with_results e c s first (suc j) entries = At (Result e j c s) (In_futures (first + j)) ∷ with_results e c s first j entries

-- a register that was made before this value and this future
abbrev pub IsEarlier : (at later : ℕ) → Register → Type 0
IsEarlier at later (In_values r) = r < at
IsEarlier at later (In_futures f) = f < later

abbrev pub is_among : ℕ → List ℕ → Bool
is_among k ks = list_any (λ j. j == k) ks

-- how far a plan has come: what is known, the value and the future that come next, and the sites that were offered
pub record Progress : Type 0 where
  pub entries : List Entry
  pub at : ℕ
  pub later : ℕ
  pub offered : List ℕ

module _ (g : Ground) where
  abbrev pub memory_at : Register → Option Memory
  memory_at (In_values m) = slice_get g.memories m
  memory_at (In_futures m) = slice_get g.future_memories m

  -- ---- cells

  -- what an expression gave at the previous instant is read, or else the number
  pub data ReadsLeft (entries : List Entry) (e : Expr) (c : Clock) (s : Scope) : (initial : ℕ) → Operation → Type 0 where
    left : {m : Register} {initial : ℕ} → IsQuiet s → memory_at m ≡ Some (Value_of e c s initial) → ReadsLeft entries e c s initial (Cell_at m)
    left_unless : {m a : Register} {initial : ℕ} → Has entries (Again s) a → memory_at m ≡ Some (Value_of e c s initial) → ReadsLeft entries e c s initial (Cell_unless a m initial)

  -- or whether there is a previous instant
  pub data ReadsSeen (entries : List Entry) (c : Clock) (s : Scope) : Operation → Type 0 where
    seen : {m : Register} → IsQuiet s → memory_at m ≡ Some (Presence_of c s) → ReadsSeen entries c s (Cell_at m)
    seen_unless : {m a : Register} → Has entries (Again s) a → memory_at m ≡ Some (Presence_of c s) → ReadsSeen entries c s (Cell_unless a m 0)

  -- ---- operations

  -- an operation computes what an expression gives where it is present
  pub data Computes (entries : List Entry) (e : Expr) (c : Clock) (s : Scope) : Operation → Type 0 where
    constant : {n : ℕ} (k : Const) → out-Form e.form ≡ Form-F.Const k → n ≡ const_value g.types k → Computes entries e c s (Number_is n)
    ready : {n : ℕ} (k : Const) → out-Form e.form ≡ Form-F.AsyncConst k → n ≡ const_value g.types k → Computes entries e c s (Number_is n)
    unary : {op : UnaryOp} {r : Register} (a : Expr) → out-Form e.form ≡ Form-F.Unary op a → Has entries (Part a c s) r → Computes entries e c s (Unary_of op r)
    binary : {op : BinaryOp} {r q : Register} (a b : Expr) → out-Form e.form ≡ Form-F.Binary op a b → Has entries (Part a c s) r → Has entries (Part b c s) q →
        Computes entries e c s (Binary_of op r q)
    divided : {op : BinaryOp} {r : Register} {n : ℕ} (a b : Expr) (k : Const) → out-Form e.form ≡ Form-F.Binary op a b → out-Form b.form ≡ Form-F.Const k → n ≡ const_value g.types k →
        Has entries (Part a c s) r → Computes entries e c s (Divided_by op r n)
    chosen : {p r q : Register} (k a b : Expr) → out-Form e.form ≡ Form-F.If k a b → Has entries (Part k c s) p → Has entries (Part a c s) r → Has entries (Part b c s) q →
        Computes entries e c s (Chosen_by p 1 r q)
    fby_constant : {o : Operation} {n : ℕ} (a b : Expr) (k : Const) → out-Form e.form ≡ Form-F.Fby a b → out-Form a.form ≡ Form-F.Const k → n ≡ const_value g.types k →
        ReadsLeft entries b c s n o → Computes entries e c s o
    fby_ready : {o : Operation} {n : ℕ} (a b : Expr) (k : Const) → out-Form e.form ≡ Form-F.Fby a b → out-Form a.form ≡ Form-F.AsyncConst k → n ≡ const_value g.types k →
        ReadsLeft entries b c s n o → Computes entries e c s o
    pre : {o : Operation} {n : ℕ} (a : Expr) → out-Form e.form ≡ Form-F.Pre a → ReadsLeft entries a c s n o → Computes entries e c s o
    fby_variable : {q l r : Register} {n : ℕ} (a b : Expr) → out-Form e.form ≡ Form-F.Fby a b → Has entries (Seen c s) q → Has entries (Left b c s n) l → Has entries (Part a c s) r →
        Computes entries e c s (Chosen_by q 1 l r)
    arrow : {q r l : Register} (a b : Expr) → out-Form e.form ≡ Form-F.Arrow a b → Has entries (Seen c s) q → Has entries (Part b c s) r → Has entries (Part a c s) l →
        Computes entries e c s (Chosen_by q 1 r l)

  -- an operation makes a register that stands for a thing
  pub data Makes (entries : List Entry) : Operation → Thing → Type 0 where
    part : {o : Operation} (h : Register) (e : Expr) (c : Clock) (s : Scope) → Has entries (Here c s) h → Computes entries e c s o → Makes entries o (Part e c s)
    flag : {h r : Register} {k : ℕ} (node : CoreNode) (c : Clock) (step : ClockStep) (s : Scope) (q : ℕ) → IsBodyOf s node → Has entries (Here c s) h → Has entries (Named step.name s) r →
        slice_get g.tested q ≡ Some (Tests node step.name s) → clock_of_equation (equation_of node step.name) ≡ c → k ≡ tag_value g.types step.tag →
        Makes entries (Flag_of h r k) (Here (c ++ step ∷ []) s)
    no_reset : (s : Scope) → IsQuiet s → Makes entries (Number_is 0) (Again s)
    reset : {a h r : Register} (node : CoreNode) (x : Name) (resets : List Name) (s : Scope) (q : ℕ) → IsBodyOf s node → Has entries (Again (Under s resets)) a →
        Has entries (Here (clock_of_equation (equation_of node x)) s) h → Has entries (Named x s) r → slice_get g.tested q ≡ Some (Tests node x s) →
        Makes entries (Again_of a h r) (Again (Under s (x ∷ resets)))
    reads_left : {o : Operation} (e : Expr) (c : Clock) (s : Scope) (n : ℕ) → ReadsLeft entries e c s n o → Makes entries o (Left e c s n)
    reads_seen : {o : Operation} (c : Clock) (s : Scope) → ReadsSeen entries c s o → Makes entries o (Seen c s)
    -- one branch more
    branch : {p r q : Register} {k : ℕ} (x : Name) (b : MergeBranch) (branches : List MergeBranch) (c : Clock) (s : Scope) → Has entries (Named x s) p → k ≡ tag_value g.types b.tag →
        Has entries (Part b.value (c ++ record { tag = b.tag; name = x } ∷ []) s) r → Has entries (Branch_of x branches c s) q → Makes entries (Chosen_by p k r q) (Branch_of x (b ∷ branches) c s)

  -- what else a register stands for
  pub data Means (entries : List Entry) : Thing → Register → Type 0 where
    -- a variable as an expression
    variable : {r : Register} (e : Expr) (x : Name) (c : Clock) (s : Scope) (h : Register) → out-Form e.form ≡ Form-F.Var x → Has entries (Here c s) h → Has entries (Named x s) r → Means entries (Part e c s) r
    sampled : {r : Register} (e a : Expr) (tag : Tag) (x : Name) (c : Clock) (s : Scope) (h : Register) → out-Form e.form ≡ Form-F.When a tag x → Has entries (Here c s) h →
        Has entries (Part a (take (length c - 1) c) s) r → Means entries (Part e c s) r
    -- a last branch, and a merge
    last_branch : {r : Register} (x : Name) (b : MergeBranch) (c : Clock) (s : Scope) → Has entries (Part b.value (c ++ record { tag = b.tag; name = x } ∷ []) s) r → Means entries (Branch_of x (b ∷ []) c s) r
    merged : {r : Register} (e : Expr) (x : Name) (branches : List MergeBranch) (c : Clock) (s : Scope) (h p : Register) (q : ℕ) → out-Form e.form ≡ Form-F.Merge x branches → Has entries (Here c s) h →
        Has entries (Named x s) p → slice_get g.covered q ≡ Some (Covers x s branches) → Has entries (Branch_of x branches c s) r → Means entries (Part e c s) r
    -- a variable by its equation
    defines : {r : Register} (node : CoreNode) (x : Name) (e : CoreEquation) (s : Scope) (h : Register) → IsBodyOf s node → equation_of node x ≡ Some e → e.left ≡ x ∷ [] → is_in x (names node.inputs) ≡ false →
        Has entries (Here e.clock.steps s) h → Has entries (Part e.right e.clock.steps (Under s e.resets)) r → Means entries (Named x s) r
    defines_output : {r : Register} (node : CoreNode) (x : Name) (e : CoreEquation) (s : Scope) (h : Register) → IsBodyOf s node → equation_of node x ≡ Some e → (length e.left == 1) ≡ false → is_in x (names node.inputs) ≡ false →
        Has entries (Here e.clock.steps s) h → Has entries (Result e.right (place_in x e.left) e.clock.steps (Under s e.resets)) r → Means entries (Named x s) r
    -- what is seen under resets
    variable_under : {r : Register} (x : Name) (s : Scope) (resets : List Name) → Has entries (Named x s) r → Means entries (Named x (Under s resets)) r
    here_under : {r : Register} (c : Clock) (s : Scope) (resets : List Name) → Has entries (Here c s) r → Means entries (Here c (Under s resets)) r
    again_under : {r : Register} (s : Scope) → Has entries (Again s) r → Means entries (Again (Under s [])) r
    -- a call and its body
    here_called : {r : Register} (c : Clock) (s : Scope) (place : ℕ) (args : List Expr) (text : Text) → Has entries (Here c s) r → Means entries (Here [] (Called s c place args text)) r
    again_called : {r : Register} (c : Clock) (s : Scope) (place : ℕ) (args : List Expr) (text : Text) → Has entries (Again s) r → Means entries (Again (Called s c place args text)) r
    argument : {r : Register} (node : CoreNode) (x : Name) (a : Expr) (c : Clock) (s : Scope) (place : ℕ) (args : List Expr) (h : Register) → is_in x (names node.inputs) ≡ true → equation_of node x ≡ None →
        slice_get args (place_in x (names node.inputs)) ≡ Some a → Has entries (Here c s) h → Has entries (Part a c s) r → Means entries (Named x (Called s c place args (Lowered node))) r
    result : {r : Register} (e : Expr) (f : Name) (args : List Expr) (text : Text) (j : ℕ) (c : Clock) (s : Scope) (h : Register) (q : ℕ) → out-Form e.form ≡ Form-F.Call f args → g.nodes f ≡ Some text →
        slice_get g.calls q ≡ Some (Calls c s e.place.0) → Has entries (Here c s) h →
        Has entries (Named (slice_index_or (outputs_of text) j []) (Called s c e.place.0 args text)) r → Means entries (Result e j c s) r
    async_call : {r : Register} (e : Expr) (queue : ℕ) (f : Name) (args : List Expr) (c : Clock) (s : Scope) (h : Register) → out-Form e.form ≡ Form-F.AsyncCall queue f args → Has entries (Here c s) h →
        Has entries (Result e 0 c s) r → Means entries (Part e c s) r
    call : {r : Register} (e : Expr) (f : Name) (args : List Expr) (c : Clock) (s : Scope) (h : Register) → out-Form e.form ≡ Form-F.Call f args → Has entries (Here c s) h →
        Has entries (Result e 0 c s) r → Means entries (Part e c s) r

  -- ---- calls

  -- the sources have what the arguments give
  abbrev pub AreSources : List Entry → Clock → Scope → List Expr → List Source → Type 0
  AreSources entries c s [] [] = Unit {0}
  AreSources entries c s (a ∷ args) (from ∷ sources) = Has entries (Part a c s) (register_of from) × AreSources entries c s args sources
  AreSources entries c s _ _ = ⊥

  -- an offering makes the calls of a site, which is that of an expression
  pub record Offers_site (entries : List Entry) (o : Offering) (e : Expr) (site : Site) : Type 0 where
    pub here : Has entries (Here site.clock site.scope) (In_values o.here)
    pub again : Has entries (Again site.scope) (In_values o.again)
    pub sources : AreSources entries site.clock site.scope site.args o.sources.items
    pub queue : ℕ
    pub f : Name
    pub form : out-Form e.form ≡ Form-F.AsyncCall queue f site.args
    pub node : g.nodes f ≡ Some site.text
    pub place : e.place.0 ≡ site.place

  module _ (sites : List Site) (offerings : List Offering) where
    -- one action more
    pub data Does (p : Progress) : Action → Progress → Type 0 where
      computes : {i : Instruction} (thing : Thing) → Makes p.entries (operation_of i) thing →
          Does p (act.Compute p.at i) (record { entries = At thing (In_values p.at) ∷ p.entries; at = suc p.at; later = p.later; offered = p.offered })
      moves : {i : FutureInstruction} (thing : Thing) → Makes p.entries (future_operation_of i) thing →
          Does p (act.Move p.later i) (record { entries = At thing (In_futures p.later) ∷ p.entries; at = p.at; later = suc p.later; offered = p.offered })
      offers : {k : ℕ} (o : Offering) (e : Expr) (site : Site) → slice_get sites k ≡ Some site → slice_get offerings k ≡ Some o → o.first ≡ p.later → Offers_site p.entries o e site → is_among k p.offered ≡ false →
          Does p (act.Offer k) (record { entries = with_results e site.clock site.scope p.later o.outputs p.entries; at = p.at; later = p.later + o.outputs; offered = k ∷ p.offered })
      gets : {h f : ℕ} (e a : Expr) (c : Clock) (s : Scope) → out-Form e.form ≡ Form-F.Get a → Has p.entries (Here c s) (In_values h) → Has p.entries (Part a c s) (In_futures f) →
          Does p (act.Get p.at h f) (record { entries = At (Part e c s) (In_values p.at) ∷ p.entries; at = suc p.at; later = p.later; offered = p.offered })

    -- one meaning more
    pub data Knows_more (p : Progress) : Progress → Type 0 where
      known : (thing : Thing) (r : Register) → IsEarlier p.at p.later r → Means p.entries thing r →
          Knows_more p (record { entries = At thing r ∷ p.entries; at = p.at; later = p.later; offered = p.offered })

    -- from one place to another by some actions
    pub data MakesAll : Progress → List Action → Progress → Type 0 where
      made : {p : Progress} → MakesAll p [] p
      action : {p q last : Progress} {a : Action} {rest : List Action} → Does p a q → MakesAll q rest last → MakesAll p (a ∷ rest) last
      also : {p q last : Progress} {rest : List Action} → Knows_more p q → MakesAll q rest last → MakesAll p rest last

  -- ---- stores

  pub data Keeps (entries : List Entry) : Memory → Storing → Type 0 where
    value_where : {h r : Register} (e : Expr) (c : Clock) (s : Scope) (n : ℕ) → IsQuiet s → Has entries (Here c s) h → Has entries (Part e c s) r → Keeps entries (Value_of e c s n) (Taken_where h r)
    value_unless : {h r a : Register} (e : Expr) (c : Clock) (s : Scope) (n : ℕ) → Has entries (Here c s) h → Has entries (Part e c s) r → Has entries (Again s) a →
        Keeps entries (Value_of e c s n) (Taken_unless h r a n)
    -- value 0 is that of the base clock of the whole
    value_always : {r : Register} (e : Expr) (c : Clock) (s : Scope) (n : ℕ) → Has entries (Here c s) (In_values 0) → Has entries (Part e c s) r → Keeps entries (Value_of e c s n) (Taken_always r)
    presence_where : {h : Register} (c : Clock) (s : Scope) → IsQuiet s → Has entries (Here c s) h → Keeps entries (Presence_of c s) (Taken_where h h)
    presence_unless : {h a : Register} (c : Clock) (s : Scope) → Has entries (Here c s) h → Has entries (Again s) a → Keeps entries (Presence_of c s) (Taken_unless h h a 0)

-- ---- plans

abbrev pub top_of : CoreNode → Scope
top_of node = Top (Lowered node)

-- what registers stand for when an instant begins: the base clock, and inputs, each a value and a future
abbrev pub inputs_at : Scope → List Name → (at later : ℕ) → List Entry
inputs_at s [] at later = []
inputs_at s (x ∷ xs) at later = At (Named x s) (In_values at) ∷ At (Named x s) (In_futures later) ∷ inputs_at s xs (suc at) (suc later)

-- the futures begin with the cells of future type
abbrev pub at_start : CoreNode → (cells : ℕ) → List Entry
at_start node cells = At (Here [] (top_of node)) (In_values 0) ∷ inputs_at (top_of node) (names node.inputs) 1 cells

-- each input is found at its place, and no equation defines it
pub record IsInputAt (node : CoreNode) (k : ℕ) (x : Name) : Type 0 where
  pub place : place_in x (names node.inputs) ≡ k
  pub among : is_in x (names node.inputs) ≡ true
  pub free : equation_of node x ≡ None

-- a register says whether a synchronous call is present
abbrev pub IsCalled : List Entry → Calling → Type 0
IsCalled entries (Calls c s place) = (h : Register) × Has entries (Here c s) h

-- how far a plan is before its first action
abbrev pub start_of : CoreNode → (cells : ℕ) → Progress
start_of node cells = record { entries = at_start node cells; at = suc (length node.inputs); later = cells + length node.inputs; offered = [] }

pub record IsPlanOf (g : Ground) (sites : List Site) (node : CoreNode) (plan : NodePlan) : Type 0 where
  pub last : Progress
  pub inputs : plan.inputs ≡ length node.inputs
  pub places : (k : ℕ) (x : Name) → slice_get (names node.inputs) k ≡ Some x → IsInputAt node k x
  pub makes : MakesAll g sites plan.offerings.items (start_of node (length g.future_memories)) plan.actions.items last
  pub each : (k : ℕ) (site : Site) → slice_get sites k ≡ Some site → is_among k last.offered ≡ true
  pub keeps : (k : ℕ) (m : Memory) → slice_get g.memories k ≡ Some m → (s : Store) × (slice_get plan.stores.items k ≡ Some s) × Keeps g last.entries m (storing_of s)
  pub keeps_futures : (k : ℕ) (m : Memory) → slice_get g.future_memories k ≡ Some m → (s : Store) × (slice_get plan.future_stores.items k ≡ Some s) × Keeps g last.entries m (future_storing_of s)
  pub future_cells : length plan.future_stores.items ≡ length g.future_memories
  pub initial : plan.initial.items ≡ map initial_of g.memories
  pub future_initial : plan.future_initial.items ≡ map initial_of g.future_memories
  pub marks : (k : ℕ) (site : Site) → slice_get sites k ≡ Some site → (o : Offering) × (slice_get plan.offerings.items k ≡ Some o) × Has last.entries (Here site.clock site.scope) (In_values o.here) × Has last.entries (Again site.scope) (In_values o.again)
  pub counted : (k : ℕ) (call : Calling) → slice_get g.calls k ≡ Some call → IsCalled last.entries call
  pub as_many : length plan.outputs.items ≡ length node.outputs
  pub outputs : (k : ℕ) (x : Name) → slice_get (names node.outputs) k ≡ Some x → (r : ℕ) × (slice_get plan.outputs.items k ≡ Some r) × Has last.entries (Named x (top_of node)) (In_values r)

-- ---- building: one step more at the end

abbrev pub OneActionMore : Type 0
OneActionMore = (g : Ground) (sites : List Site) (offerings : List Offering) (p q last : Progress) (actions : List Action) (a : Action) → MakesAll g sites offerings p actions q → Does g sites offerings q a last →
    MakesAll g sites offerings p (actions ++ a ∷ []) last

abbrev pub OneMeaningMore : Type 0
OneMeaningMore = (g : Ground) (sites : List Site) (offerings : List Offering) (p q last : Progress) (actions : List Action) → MakesAll g sites offerings p actions q → Knows_more g sites offerings q last →
    MakesAll g sites offerings p actions last
