-- What a rule of the grammar gives is good where what it is made of is.
use Rattle.std.proofs.Common.{◌≡◌, ◌≢◌, ℕ, ℤ, true, false, List, [], ◌∷◌, Option, Some, None, map, refl, sym, subst, inl, inr}
use Rattle.std.specs.Prelude.{◌⊎◌, FitsSigned}
use Rattle.std.specs.Int.{w32}
use Rattle.std.proofs.lemmas.Int.{wrapping_neg_is, SFits-int_wrap}
use Rattle.hept_ast.specs.declared.name.Place.{Place}
use Rattle.hept_ast.specs.declared.tree.Expr.{Expr}
use Rattle.hept_ast.specs.declared.tree.TypeDec.{TypeDec}
use Rattle.hept_ast.specs.declared.tree.Init.{Init}
use Rattle.hept_ast.specs.declared.tree.Ty.{Ty}
use Rattle.hept_ast.specs.declared.tree.Form.TheVariants as form
use Rattle.hept_ast.specs.declared.tree.Const.TheVariants as const
use Rattle.hept_ast.specs.declared.tree.UnaryOp.TheVariants as unary
use Rattle.ept_tokens.specs.declared.token.Kind.{Kind}
use Rattle.ept_grammar.specs.declared.parts.Level.{Level}
use Rattle.ept_grammar.specs.declared.parts.Level.TheVariants as level
use Rattle.ept_grammar.specs.declared.parts.Sample.{Sample}
use Rattle.ept_tokens.specs.declared.token.Token.{Token}
use Rattle.ept_grammar.specs.Grammar.{Part, Whole, Item, Type_dec, Constructor_list, Node_dec, Interface, Input_list, Output_list, Node_body, Inputs, More_inputs, Input, Names, Locals, Decls, More_decls, Last_decls, Declaration, Initial, Constant, Eqs, More_eqs, Eq, Several, Switching, Resetting, Branch_list, Branches, Branch_of, Block_of, Block_locals, State_list, States, State_of, Transitions, Weak, Strong, Escapes, Escape_list, More_escapes, Escape_of, Expression, Choosing, Then_part, Else_part, Arrows, Arrow_tail, Fbys, Fby_tail, Sampled, Infix, Operand, Operands, Prefix, Signed, After_minus, Atom, Literal, Call_tail, Called, Merging, Merge_list, Merge_branches, Merge_branch, Async_tail, Args, More_args, Symbol, word, part, Signed_operand, Value, Values, Rule, rules, at, signs, sign, grouped, sampled, between, named, names_of, declared, negative, negated, size, infix_rule}
use Rattle.hept_ast.specs.TypedValues.{FitsConst}
use Rattle.accepted_meaning.specs.Ranges.{FitsInit}
use Rattle.read_laws.proofs.PartPlaces.{Each}
use Rattle.read_laws.proofs.GoodTexts.{Every, every_append, GoodExpr, GoodForm, GoodBranchOf, GoodDecl, GoodEquation, GoodBlock, GoodBranch, GoodEscape, GoodState, GoodNode, good_const, good_var, good_last, good_unary, good_binary, good_if, good_fby, good_pre, good_arrow, good_when, good_merge, good_call, good_async_call, good_async_const, good_get, good_block, good_define, good_switch, good_reset, good_automaton}

abbrev pub HasConstructors : TypeDec → Type 0
HasConstructors d = d.constructors ≡ [] → ⊥

abbrev pub GoodTail : Option Signed_operand → Type 0
GoodTail None = Unit {0}
GoodTail (Some o) = GoodExpr o.1

abbrev pub GoodArgs : Option (List Expr) → Type 0
GoodArgs None = Unit {0}
GoodArgs (Some es) = Every GoodExpr es

abbrev pub GoodMinus : ℤ ⊎ Expr → Type 0
GoodMinus (inl z) = FitsSigned w32 z
GoodMinus (inr e) = GoodExpr e

abbrev pub GoodOperand : Signed_operand → Type 0
GoodOperand o = GoodExpr o.1

abbrev pub Good : (n : Part) → Value n → Type 0
Good Whole v = Every HasConstructors v.types × Every GoodNode v.nodes
Good Item v = Every HasConstructors v.types × Every GoodNode v.nodes
Good Type_dec v = HasConstructors v
Good Constructor_list v = v ≢ []
Good Node_dec v = GoodNode v
Good Interface v = Every GoodDecl v.0 × Every GoodDecl v.1
Good Input_list v = Every GoodDecl v
Good Output_list v = Every GoodDecl v
Good Node_body v = GoodBlock v
Good Inputs v = Every GoodDecl v
Good More_inputs v = Every GoodDecl v
Good Input v = Every GoodDecl v
Good Names v = v ≢ []
Good Locals v = Every GoodDecl v
Good Decls v = Every GoodDecl v
Good More_decls v = Every GoodDecl v
Good Last_decls v = Every GoodDecl v
Good Declaration v = Every GoodDecl v
Good Initial v = FitsConst v.value
Good Constant v = FitsConst v
Good Eqs v = Every GoodEquation v
Good More_eqs v = Every GoodEquation v
Good Eq v = GoodEquation v
Good Several v = (v.0 ≢ []) × GoodExpr v.1
Good Switching v = GoodExpr v.0 × Every GoodBranch v.1
Good Resetting v = GoodBlock v.0 × GoodExpr v.1
Good Branch_list v = Every GoodBranch v
Good Branches v = Every GoodBranch v
Good Branch_of v = GoodBranch v
Good Block_of v = GoodBlock v
Good Block_locals v = Every GoodDecl v
Good State_list v = Every GoodState v
Good States v = Every GoodState v
Good State_of v = GoodState v
Good Transitions v = Every GoodEscape v.0 × Every GoodEscape v.1
Good Weak v = Every GoodEscape v
Good Strong v = Every GoodEscape v
Good Escapes v = Every GoodEscape v
Good Escape_list v = Every GoodEscape v
Good More_escapes v = Every GoodEscape v
Good Escape_of v = GoodEscape v
Good Expression v = GoodExpr v
Good Choosing v = GoodForm v
Good Then_part v = GoodExpr v
Good Else_part v = GoodExpr v
Good Arrows v = GoodExpr v
Good Arrow_tail v = GoodTail v
Good Fbys v = GoodExpr v
Good Fby_tail v = GoodTail v
Good Sampled v = GoodExpr v
Good (Infix l) v = GoodExpr v
Good (Operand l) v = GoodExpr v
Good (Operands o) v = Every GoodOperand v
Good Prefix v = GoodExpr v
Good Signed v = GoodExpr v
Good After_minus v = GoodMinus v
Good Atom v = GoodExpr v
Good Literal v = GoodExpr v
Good Call_tail v = GoodArgs v
Good Called v = Every GoodExpr v
Good Merging v = GoodForm v
Good Merge_list v = Every GoodBranchOf v
Good Merge_branches v = Every GoodBranchOf v
Good Merge_branch v = GoodBranchOf v
Good Async_tail v = GoodForm v
Good Args v = Every GoodExpr v
Good More_args v = Every GoodExpr v
Good _ v = Unit {0}

-- the number of a token has 32 bits
abbrev pub FitsToken : Token → Type 0
FitsToken t = FitsSigned w32 t.number

abbrev pub AllGood : (ss : List Symbol) → Values ss → Type 0
AllGood [] vs = Unit {0}
AllGood (word r k ∷ ss) vs = FitsToken vs.0 × AllGood ss vs.1
AllGood (part n ∷ ss) vs = Good n vs.0 × AllGood ss vs.1

abbrev pub GivesGood : (n : Part) → Rule n → Type 0
GivesGood n r = (p : Place) (us : Values r.right) → AllGood r.right us → Good n (r.gives p us)

-- a part of which nothing is asked
nothing_asked : (n : Part) → ((v : Value n) → Good n v) → (rs : List (Rule n)) → Each (GivesGood n) rs
nothing_asked n h [] = tt
nothing_asked n h (r ∷ rs) = (λ p us g. h (r.gives p us), nothing_asked n h rs)

not_empty : {A : Type 0} (x : A) (xs : List A) → x ∷ xs ≢ []
not_empty x xs e = cc

negative_fits : (z : ℤ) → FitsSigned w32 z → FitsSigned w32 (negative z)
negative_fits z h = subst (FitsSigned w32) (sym (wrapping_neg_is w32 z h)) (SFits-int_wrap w32 _)

-- ---- values that rules make

declared_good : (ts : List Token) (t : Ty) (i : Option Init) → FitsInit i → Every GoodDecl (declared ts t i)
declared_good [] t i h = tt
declared_good (x ∷ ts) t i h = (h, declared_good ts t i h)

names_some : (ts : List Token) → ts ≢ [] → names_of ts ≢ []
names_some [] some e = some refl
names_some (t ∷ ts) some e = cc

grouped_good : (e : Expr) (os : List Signed_operand) → GoodExpr e → Every GoodOperand os → GoodExpr (grouped e os)
grouped_good e [] h k = h
grouped_good e (o ∷ os) h k = grouped_good (at o.0.place (form.Binary (sign o.0.kind) e o.1)) os (good_binary (sign o.0.kind) e o.1 h k.0) k.1

sampled_good : (e : Expr) (ss : List Sample) → GoodExpr e → GoodExpr (sampled e ss)
sampled_good e [] h = h
sampled_good e (s ∷ ss) h = sampled_good (at s.place (form.When e s.tag s.name)) ss (good_when e s.tag s.name h)

arrow_good : (e : Expr) (tail : Option Signed_operand) → GoodExpr e → GoodTail tail → GoodExpr (between (λ a b. form.Arrow a b) e tail)
arrow_good e None h k = h
arrow_good e (Some o) h k = good_arrow e o.1 h k

fby_good : (e : Expr) (tail : Option Signed_operand) → GoodExpr e → GoodTail tail → GoodExpr (between (λ a b. form.Fby a b) e tail)
fby_good e None h k = h
fby_good e (Some o) h k = good_fby e o.1 h k

minus_good : (p : Place) (o : ℤ ⊎ Expr) → GoodMinus o → GoodExpr (negated p o)
minus_good p (inl z) h = good_const (const.Number (negative z)) (negative_fits z h)
minus_good p (inr e) h = good_unary unary.Minus e h

named_good : (x : List ℕ) (args : Option (List Expr)) → GoodArgs args → GoodForm (named x args)
named_good x None h = good_var x
named_good x (Some es) h = good_call x es h

-- ---- each rule

whole_good : Each (GivesGood Whole) (rules Whole)
whole_good = (
  λ p us g. (tt, tt),
  (
    λ p (i, (w, _)) g. (every_append HasConstructors i.types w.types g.0.0 g.1.0.0, every_append GoodNode i.nodes w.nodes g.0.1 g.1.0.1),
    tt,
  ),
)

item_good : Each (GivesGood Item) (rules Item)
item_good = (
  λ p (n, _) g. (tt, (g.0, tt)),
  (
    λ p (t, _) g. ((g.0, tt), tt),
    tt,
  ),
)

type_dec_good : Each (GivesGood Type_dec) (rules Type_dec)
type_dec_good = (λ p us g. g.1.1.1.0, tt)

constructor_list_good : Each (GivesGood Constructor_list) (rules Constructor_list)
constructor_list_good = (λ p (name, (constructors, _)) g. not_empty name.name constructors, tt)

node_dec_good : Each (GivesGood Node_dec) (rules Node_dec)
node_dec_good = (λ p us g. (g.1.1.0, g.1.1.1.0), tt)

interface_good : Each (GivesGood Interface) (rules Interface)
interface_good = (λ p us g. (g.0, g.1.1.0), tt)

input_list_good : Each (GivesGood Input_list) (rules Input_list)
input_list_good = (λ p us g. g.1.0, tt)

output_list_good : Each (GivesGood Output_list) (rules Output_list)
output_list_good = (λ p us g. g.1.0, tt)

node_body_good : Each (GivesGood Node_body) (rules Node_body)
node_body_good = (λ p (locals, (_, (eqs, _))) g. good_block locals eqs g.0 g.1.1.0, tt)

inputs_good : Each (GivesGood Inputs) (rules Inputs)
inputs_good = (
  λ p us g. tt,
  (
    λ p (input, (more, _)) g. every_append GoodDecl input more g.0 g.1.0,
    tt,
  ),
)

more_inputs_good : Each (GivesGood More_inputs) (rules More_inputs)
more_inputs_good = (
  λ p us g. tt,
  (
    λ p us g. g.1.0,
    tt,
  ),
)

input_good : Each (GivesGood Input) (rules Input)
input_good = (λ p (typed, _) g. declared_good typed.0 typed.1 None tt, tt)

names_good : Each (GivesGood Names) (rules Names)
names_good = (λ p (name, (names, _)) g. not_empty name names, tt)

locals_good : Each (GivesGood Locals) (rules Locals)
locals_good = (
  λ p us g. tt,
  (
    λ p us g. g.1.0,
    tt,
  ),
)

decls_good : Each (GivesGood Decls) (rules Decls)
decls_good = (λ p (ds, (more, _)) g. every_append GoodDecl ds more g.0 g.1.0, tt)

more_decls_good : Each (GivesGood More_decls) (rules More_decls)
more_decls_good = (
  λ p us g. tt,
  (
    λ p us g. g.1.0,
    tt,
  ),
)

last_decls_good : Each (GivesGood Last_decls) (rules Last_decls)
last_decls_good = (
  λ p us g. tt,
  (
    λ p (ds, (more, _)) g. every_append GoodDecl ds more g.0 g.1.0,
    tt,
  ),
)

declaration_good : Each (GivesGood Declaration) (rules Declaration)
declaration_good = (
  λ p (typed, _) g. declared_good typed.0 typed.1 None tt,
  (
    λ p (_, (typed, (_, (i, _)))) g. declared_good typed.0 typed.1 (Some i) g.1.1.1.0,
    tt,
  ),
)

initial_good : Each (GivesGood Initial) (rules Initial)
initial_good = (
  λ p us g. g.0,
  (
    λ p us g. g.1.0,
    tt,
  ),
)

constant_good : Each (GivesGood Constant) (rules Constant)
constant_good = (
  λ p us g. g.0,
  (
    λ p (_, (number, _)) g. negative_fits number.number g.1.0,
    (
      λ p us g. tt,
      (
        λ p us g. tt,
        (
          λ p us g. tt,
          tt,
        ),
      ),
    ),
  ),
)

eqs_good : Each (GivesGood Eqs) (rules Eqs)
eqs_good = (
  λ p us g. tt,
  (
    λ p us g. (g.0, g.1.0),
    tt,
  ),
)

more_eqs_good : Each (GivesGood More_eqs) (rules More_eqs)
more_eqs_good = (
  λ p us g. tt,
  (
    λ p us g. g.1.0,
    tt,
  ),
)

eq_good : Each (GivesGood Eq) (rules Eq)
eq_good = (
  λ p (name, (_, (e, _))) g. good_define p (name.name ∷ []) e (not_empty name.name []) g.1.1.0,
  (
    λ p (_, (several, _)) g. good_define p several.0 several.1 g.1.0.0 g.1.0.1,
    (
      λ p (_, (switching, _)) g. good_switch p switching.0 switching.1 g.1.0.0 g.1.0.1,
      (
        λ p (_, (resetting, _)) g. good_reset p resetting.0 resetting.1 g.1.0.0 g.1.0.1,
        (
          λ p (_, (states, _)) g. good_automaton p states g.1.0,
          tt,
        ),
      ),
    ),
  ),
)

several_good : Each (GivesGood Several) (rules Several)
several_good = (λ p (names, _) g. (names_some names g.0, g.1.1.1.0), tt)

switching_good : Each (GivesGood Switching) (rules Switching)
switching_good = (λ p us g. (g.0, g.1.0), tt)

resetting_good : Each (GivesGood Resetting) (rules Resetting)
resetting_good = (λ p us g. (g.0, g.1.1.0), tt)

branch_list_good : Each (GivesGood Branch_list) (rules Branch_list)
branch_list_good = (λ p us g. (g.0, g.1.0), tt)

branches_good : Each (GivesGood Branches) (rules Branches)
branches_good = (
  λ p us g. tt,
  (
    λ p us g. (g.0, g.1.0),
    tt,
  ),
)

branch_of_good : Each (GivesGood Branch_of) (rules Branch_of)
branch_of_good = (λ p us g. g.1.1.1.0, tt)

block_of_good : Each (GivesGood Block_of) (rules Block_of)
block_of_good = (λ p (locals, (eqs, _)) g. good_block locals eqs g.0 g.1.0, tt)

block_locals_good : Each (GivesGood Block_locals) (rules Block_locals)
block_locals_good = (
  λ p us g. tt,
  (
    λ p us g. g.1.0,
    tt,
  ),
)

state_list_good : Each (GivesGood State_list) (rules State_list)
state_list_good = (λ p us g. (g.0, g.1.0), tt)

states_good : Each (GivesGood States) (rules States)
states_good = (
  λ p us g. tt,
  (
    λ p us g. (g.0, g.1.0),
    tt,
  ),
)

state_of_good : Each (GivesGood State_of) (rules State_of)
state_of_good = (λ p us g. (g.1.1.1.0, g.1.1.1.1.0), tt)

transitions_good : Each (GivesGood Transitions) (rules Transitions)
transitions_good = (λ p us g. (g.0, g.1.0), tt)

weak_good : Each (GivesGood Weak) (rules Weak)
weak_good = (
  λ p us g. tt,
  (
    λ p us g. g.1.0,
    tt,
  ),
)

strong_good : Each (GivesGood Strong) (rules Strong)
strong_good = (
  λ p us g. tt,
  (
    λ p us g. g.1.0,
    tt,
  ),
)

escapes_good : Each (GivesGood Escapes) (rules Escapes)
escapes_good = (
  λ p us g. g.0,
  (
    λ p us g. g.1.0,
    tt,
  ),
)

escape_list_good : Each (GivesGood Escape_list) (rules Escape_list)
escape_list_good = (λ p us g. (g.0, g.1.0), tt)

more_escapes_good : Each (GivesGood More_escapes) (rules More_escapes)
more_escapes_good = (
  λ p us g. tt,
  (
    λ p us g. (g.1.0, g.1.1.0),
    tt,
  ),
)

escape_of_good : Each (GivesGood Escape_of) (rules Escape_of)
escape_of_good = (λ p us g. g.0, tt)

expression_good : Each (GivesGood Expression) (rules Expression)
expression_good = (
  λ p us g. g.0,
  (
    λ p us g. g.1.0,
    tt,
  ),
)

choosing_good : Each (GivesGood Choosing) (rules Choosing)
choosing_good = (λ p (c, (x, (y, _))) g. good_if c x y g.0 g.1.0 g.1.1.0, tt)

then_part_good : Each (GivesGood Then_part) (rules Then_part)
then_part_good = (λ p us g. g.1.0, tt)

else_part_good : Each (GivesGood Else_part) (rules Else_part)
else_part_good = (λ p us g. g.1.0, tt)

arrows_good : Each (GivesGood Arrows) (rules Arrows)
arrows_good = (λ p (e, (tail, _)) g. arrow_good e tail g.0 g.1.0, tt)

arrow_tail_good : Each (GivesGood Arrow_tail) (rules Arrow_tail)
arrow_tail_good = (
  λ p us g. tt,
  (
    λ p us g. g.1.0,
    tt,
  ),
)

fbys_good : Each (GivesGood Fbys) (rules Fbys)
fbys_good = (λ p (e, (tail, _)) g. fby_good e tail g.0 g.1.0, tt)

fby_tail_good : Each (GivesGood Fby_tail) (rules Fby_tail)
fby_tail_good = (
  λ p us g. tt,
  (
    λ p us g. g.1.0,
    tt,
  ),
)

sampled_rule_good : Each (GivesGood Sampled) (rules Sampled)
sampled_rule_good = (λ p (e, (more, _)) g. sampled_good e more g.0, tt)

infix_good : (l : Level) → Each (GivesGood (Infix l)) (rules (Infix l))
infix_good l = (λ p (e, (more, _)) g. grouped_good e more g.0 g.1.0, tt)

operand_good : (l : Level) → Each (GivesGood (Operand l)) (rules (Operand l))
operand_good level.Or = (λ p us g. g.0, tt)
operand_good level.And = (λ p us g. g.0, tt)
operand_good level.Comparison = (λ p us g. g.0, tt)
operand_good level.Sum = (λ p us g. g.0, tt)
operand_good level.Product = (λ p us g. g.0, tt)

signs_good : (l : Level) (ks : List Kind) → Each (GivesGood (Operands (Some l))) (map (infix_rule l) ks)
signs_good l [] = tt
signs_good l (k ∷ ks) = (λ p us g. (g.1.0, g.1.1.0), signs_good l ks)

operands_good : (o : Option Level) → Each (GivesGood (Operands o)) (rules (Operands o))
operands_good None = (λ p us g. tt, tt)
operands_good (Some l) = (λ p us g. tt, signs_good l (signs l))

prefix_good : Each (GivesGood Prefix) (rules Prefix)
prefix_good = (
  λ p us g. g.0,
  (
    λ p (number, _) g. good_const (const.Number number.number) g.0,
    (
      λ p us g. g.0,
      tt,
    ),
  ),
)

signed_good : Each (GivesGood Signed) (rules Signed)
signed_good = (
  λ p (_, (operand, _)) g. minus_good p operand g.1.0,
  (
    λ p (_, (e, _)) g. good_unary unary.Not e g.1.0,
    (
      λ p (_, (e, _)) g. good_pre e g.1.0,
      (
        λ p (_, (e, _)) g. good_get e g.1.0,
        tt,
      ),
    ),
  ),
)

after_minus_good : Each (GivesGood After_minus) (rules After_minus)
after_minus_good = (
  λ p us g. g.0,
  (
    λ p us g. g.0,
    (
      λ p us g. g.0,
      tt,
    ),
  ),
)

atom_good : Each (GivesGood Atom) (rules Atom)
atom_good = (
  λ p us g. g.0,
  (
    λ p (name, (args, _)) g. named_good name.name args g.1.0,
    (
      λ p us g. g.1.0,
      (
        λ p us g. g.1.0,
        (
          λ p us g. g.1.0,
          tt,
        ),
      ),
    ),
  ),
)

literal_good : Each (GivesGood Literal) (rules Literal)
literal_good = (
  λ p (name, _) g. good_const (const.Constructor name.name) tt,
  (
    λ p us g. good_const (const.Truth true) tt,
    (
      λ p us g. good_const (const.Truth false) tt,
      (
        λ p (_, (name, _)) g. good_last name.name,
        tt,
      ),
    ),
  ),
)

call_tail_good : Each (GivesGood Call_tail) (rules Call_tail)
call_tail_good = (
  λ p us g. tt,
  (
    λ p us g. g.0,
    tt,
  ),
)

called_good : Each (GivesGood Called) (rules Called)
called_good = (λ p us g. g.1.0, tt)

merging_good : Each (GivesGood Merging) (rules Merging)
merging_good = (λ p (name, (bs, _)) g. good_merge name.name bs g.1.0, tt)

merge_list_good : Each (GivesGood Merge_list) (rules Merge_list)
merge_list_good = (λ p us g. (g.0, g.1.0), tt)

merge_branches_good : Each (GivesGood Merge_branches) (rules Merge_branches)
merge_branches_good = (
  λ p us g. tt,
  (
    λ p us g. (g.0, g.1.0),
    tt,
  ),
)

merge_branch_good : Each (GivesGood Merge_branch) (rules Merge_branch)
merge_branch_good = (λ p us g. g.1.1.1.0, tt)

async_tail_good : Each (GivesGood Async_tail) (rules Async_tail)
async_tail_good = (
  λ p (k, _) g. good_async_const k g.0,
  (
    λ p (name, (args, _)) g. good_async_call 2 name.name args g.1.0,
    (
      λ p (_, (number, (_, (name, (args, _))))) g. good_async_call (size number.number) name.name args g.1.1.1.1.0,
      tt,
    ),
  ),
)

args_good : Each (GivesGood Args) (rules Args)
args_good = (
  λ p us g. tt,
  (
    λ p us g. (g.0, g.1.0),
    tt,
  ),
)

more_args_good : Each (GivesGood More_args) (rules More_args)
more_args_good = (
  λ p us g. tt,
  (
    λ p us g. (g.1.0, g.1.1.0),
    tt,
  ),
)

pub all_good : (n : Part) → Each (GivesGood n) (rules n)
all_good (Infix l) = infix_good l
all_good (Operand l) = operand_good l
all_good (Operands o) = operands_good o
all_good Whole = whole_good
all_good Item = item_good
all_good Type_dec = type_dec_good
all_good Constructor_list = constructor_list_good
all_good Node_dec = node_dec_good
all_good Interface = interface_good
all_good Input_list = input_list_good
all_good Output_list = output_list_good
all_good Node_body = node_body_good
all_good Inputs = inputs_good
all_good More_inputs = more_inputs_good
all_good Input = input_good
all_good Names = names_good
all_good Locals = locals_good
all_good Decls = decls_good
all_good More_decls = more_decls_good
all_good Last_decls = last_decls_good
all_good Declaration = declaration_good
all_good Initial = initial_good
all_good Constant = constant_good
all_good Eqs = eqs_good
all_good More_eqs = more_eqs_good
all_good Eq = eq_good
all_good Several = several_good
all_good Switching = switching_good
all_good Resetting = resetting_good
all_good Branch_list = branch_list_good
all_good Branches = branches_good
all_good Branch_of = branch_of_good
all_good Block_of = block_of_good
all_good Block_locals = block_locals_good
all_good State_list = state_list_good
all_good States = states_good
all_good State_of = state_of_good
all_good Transitions = transitions_good
all_good Weak = weak_good
all_good Strong = strong_good
all_good Escapes = escapes_good
all_good Escape_list = escape_list_good
all_good More_escapes = more_escapes_good
all_good Escape_of = escape_of_good
all_good Expression = expression_good
all_good Choosing = choosing_good
all_good Then_part = then_part_good
all_good Else_part = else_part_good
all_good Arrows = arrows_good
all_good Arrow_tail = arrow_tail_good
all_good Fbys = fbys_good
all_good Fby_tail = fby_tail_good
all_good Sampled = sampled_rule_good
all_good Prefix = prefix_good
all_good Signed = signed_good
all_good After_minus = after_minus_good
all_good Atom = atom_good
all_good Literal = literal_good
all_good Call_tail = call_tail_good
all_good Called = called_good
all_good Merging = merging_good
all_good Merge_list = merge_list_good
all_good Merge_branches = merge_branches_good
all_good Merge_branch = merge_branch_good
all_good Async_tail = async_tail_good
all_good Args = args_good
all_good More_args = more_args_good
all_good n = nothing_asked n (λ v. tt) (rules n)
