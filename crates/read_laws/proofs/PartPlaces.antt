-- The places of calls in what a part stands for are among those of its tokens and parts, in their order: rule by rule.
use Rattle.std.proofs.Common.{◌≡◌, ℕ, ℤ, List, [], ◌∷◌, ◌++◌, Option, Some, None, map, refl, sym, ap, ◌∙◌, append_assoc, append-nil, inl, inr}
use Rattle.std.specs.Prelude.{◌⊎◌}
use Rattle.std.specs.List.{concat}
use Rattle.hept_ast.specs.CallPlaces.{expr_places, condition_places, block_places, equation_places}
use Rattle.hept_ast.specs.declared.name.Place.{Place}
use Rattle.hept_ast.specs.declared.tree.Expr.{Expr}
use Rattle.hept_ast.specs.declared.tree.MergeBranch.{MergeBranch}
use Rattle.hept_ast.specs.declared.tree.Node.{Node}
use Rattle.hept_ast.specs.declared.tree.Form.{Form, out-Form}
use Rattle.hept_ast.specs.declared.tree.Form.TheOpen.{Form-F}
use Rattle.hept_ast.specs.declared.tree.Form.TheVariants as form
use Rattle.hept_ast.specs.declared.tree.Const.TheVariants as const
use Rattle.hept_ast.specs.declared.tree.UnaryOp.TheVariants as unary
use Rattle.hept_ast.proofs.CallPlacesOf.{form_view}
use Rattle.ept_tokens.specs.declared.token.Kind.{Kind}
use Rattle.ept_grammar.specs.declared.parts.Level.{Level}
use Rattle.ept_grammar.specs.declared.parts.Level.TheVariants as level
use Rattle.ept_grammar.specs.declared.parts.Sample.{Sample}
use Rattle.ept_tokens.specs.declared.token.Token.{Token}
use Rattle.ept_grammar.specs.Grammar.{Among, here, there, Part, Whole, Item, Node_dec, Node_body, Eqs, More_eqs, Eq, Several, Switching, Resetting, Branch_list, Branches, Branch_of, Block_of, State_list, States, State_of, Transitions, Weak, Strong, Escapes, Escape_list, More_escapes, Escape_of, Expression, Choosing, Then_part, Else_part, Arrows, Arrow_tail, Fbys, Fby_tail, Sampled, Infix, Operand, Operands, Prefix, Signed, After_minus, Atom, Literal, Call_tail, Called, Merging, Merge_list, Merge_branches, Merge_branch, Async_tail, Args, More_args, Symbol, word, part, Name, Signed_operand, Value, Values, Rule, rules, at, signs, sign, grouped, sampled, between, named, negative, negated, size, infix_rule}
use Rattle.read_laws.proofs.Sublists.{Sub, empty, taken, passed, all, left, last, both, two_then, two, through, same_left}
use Rattle.read_laws.proofs.FormPlaces.{inner, inner_places, at_is, at_sub, out_const, out_var, out_last, out_unary, out_binary, out_if, out_fby, out_pre, out_arrow, out_when, out_merge, out_call, out_async_call, out_async_const, out_get, block_is, branches_places, state_places, define_is, switch_is, reset_is, automaton_is}

-- ---- the places of calls in values

abbrev pub nodes_places : List Node → List ℕ
nodes_places ns = concat (map (λ n. block_places n.block) ns)

abbrev pub args_places : List Expr → List ℕ
args_places es = concat (map expr_places es)

abbrev pub merge_places : List MergeBranch → List ℕ
merge_places bs = concat (map (λ b. expr_places b.value) bs)

abbrev pub operands_places : List Signed_operand → List ℕ
operands_places os = concat (map (λ o. expr_places o.1) os)

abbrev pub tail_places : Option Signed_operand → List ℕ
tail_places None = []
tail_places (Some o) = expr_places o.1

abbrev pub call_places : Option (List Expr) → List ℕ
call_places None = []
call_places (Some es) = args_places es

abbrev pub minus_places : ℤ ⊎ Expr → List ℕ
minus_places (inl z) = []
minus_places (inr e) = expr_places e

abbrev pub places : (n : Part) → Value n → List ℕ
places Whole v = nodes_places v.nodes
places Item v = nodes_places v.nodes
places Node_dec v = block_places v.block
places Node_body v = block_places v
places Block_of v = block_places v
places Eqs v = concat (map equation_places v)
places More_eqs v = concat (map equation_places v)
places Eq v = equation_places v
places Several v = expr_places v.1
places Switching v = expr_places v.0 ++ branches_places v.1
places Resetting v = block_places v.0 ++ expr_places v.1
places Branch_list v = branches_places v
places Branches v = branches_places v
places Branch_of v = block_places v.block
places State_list v = concat (map state_places v)
places States v = concat (map state_places v)
places State_of v = state_places v
places Transitions v = condition_places v.0 ++ condition_places v.1
places Weak v = condition_places v
places Strong v = condition_places v
places Escapes v = condition_places v
places Escape_list v = condition_places v
places More_escapes v = condition_places v
places Escape_of v = expr_places v.condition
places Expression v = expr_places v
places Choosing v = inner_places v
places Then_part v = expr_places v
places Else_part v = expr_places v
places Arrows v = expr_places v
places Arrow_tail v = tail_places v
places Fbys v = expr_places v
places Fby_tail v = tail_places v
places Sampled v = expr_places v
places (Infix l) v = expr_places v
places (Operand l) v = expr_places v
places (Operands o) v = operands_places v
places Prefix v = expr_places v
places Signed v = expr_places v
places After_minus v = minus_places v
places Atom v = expr_places v
places Literal v = expr_places v
places Call_tail v = call_places v
places Called v = args_places v
places Merging v = inner_places v
places Merge_list v = merge_places v
places Merge_branches v = merge_places v
places Merge_branch v = expr_places v.value
places Async_tail v = inner_places v
places Args v = args_places v
places More_args v = args_places v
places _ v = []

-- the places of the tokens and in the values of some symbols
abbrev pub all_places : (ss : List Symbol) → Values ss → List ℕ
all_places [] vs = []
all_places (word r k ∷ ss) vs = vs.0.place.0 ∷ all_places ss vs.1
all_places (part n ∷ ss) vs = places n vs.0 ++ all_places ss vs.1

-- where the symbols begin with a token, this is its place
abbrev pub Starts_at : (ss : List Symbol) → Values ss → Place → Type 0
Starts_at [] vs p = Unit {0}
Starts_at (word r k ∷ ss) vs p = vs.0.place ≡ p
Starts_at (part n ∷ ss) vs p = Unit {0}

-- what a rule gives has its places in order among those of its symbols
abbrev pub Fine : (n : Part) → Rule n → Type 0
Fine n r = (p : Place) (us : Values r.right) → Starts_at r.right us p → Sub (places n (r.gives p us)) (all_places r.right us)

abbrev pub Each : {n : Part} → (Rule n → Type 0) → List (Rule n) → Type 0
Each P [] = Unit {0}
Each P (r ∷ rs) = P r × Each P rs

pub each_at : {n : Part} (P : Rule n → Type 0) {r : Rule n} {rs : List (Rule n)} → Among r rs → Each P rs → P r
each_at P here e = e.0
each_at P (there i) e = each_at P i e.1

-- a part without calls
no_calls : (n : Part) → ((v : Value n) → places n v ≡ []) → (rs : List (Rule n)) → Each (Fine n) rs
no_calls n e [] = tt
no_calls n e (r ∷ rs) = (λ p us b. same_left (e (r.gives p us)) empty, no_calls n e rs)

-- ---- forms at a place

at_token : (t : Token) (p : Place) (f : Form) (ys : List ℕ) → t.place ≡ p → Sub (inner_places f) ys → Sub (expr_places (at p f)) (t.place.0 ∷ ys)
at_token t p f ys e q = through (at_sub p f) (go (ap (λ (x : Place). x.0) e))
  where
    go : t.place.0 ≡ p.0 → Sub (p.0 ∷ inner_places f) (t.place.0 ∷ ys)
    go h = rw h (taken q)

-- a form without calls
plain : (p : Place) (f : Form) (v : Form-F Form Expr MergeBranch) (ys : List ℕ) → out-Form f ≡ v → form_view v p ≡ [] → Sub (expr_places (at p f)) ys
plain p f v ys e h = same_left (at_is p f v e ∙ h) empty

grouped_is : (e : Expr) (os : List Signed_operand) → expr_places (grouped e os) ≡ expr_places e ++ operands_places os
grouped_is e [] = sym (append-nil (expr_places e))
grouped_is e (o ∷ os) =
    grouped_is (at o.0.place (form.Binary (sign o.0.kind) e o.1)) os
    ∙ ap (λ (x : List ℕ). x ++ operands_places os) (at_is o.0.place (form.Binary (sign o.0.kind) e o.1) (Form-F.Binary (sign o.0.kind) e o.1) (out_binary (sign o.0.kind) e o.1))
    ∙ append_assoc (expr_places e) (expr_places o.1) (operands_places os)

sampled_is : (e : Expr) (ss : List Sample) → expr_places (sampled e ss) ≡ expr_places e
sampled_is e [] = refl
sampled_is e (s ∷ ss) =
    sampled_is (at s.place (form.When e s.tag s.name)) ss ∙ at_is s.place (form.When e s.tag s.name) (Form-F.When e s.tag s.name) (out_when e s.tag s.name)

arrow_sub : (e : Expr) (tail : Option Signed_operand) → Sub (expr_places (between (λ a b. form.Arrow a b) e tail)) (expr_places e ++ (tail_places tail ++ []))
arrow_sub e None = last (expr_places e)
arrow_sub e (Some o) = same_left (at_is o.0.place (form.Arrow e o.1) (Form-F.Arrow e o.1) (out_arrow e o.1)) (two (expr_places e) (expr_places o.1))

fby_sub : (e : Expr) (tail : Option Signed_operand) → Sub (expr_places (between (λ a b. form.Fby a b) e tail)) (expr_places e ++ (tail_places tail ++ []))
fby_sub e None = last (expr_places e)
fby_sub e (Some o) = same_left (at_is o.0.place (form.Fby e o.1) (Form-F.Fby e o.1) (out_fby e o.1)) (two (expr_places e) (expr_places o.1))

minus_sub : (t : Token) (p : Place) (o : ℤ ⊎ Expr) → Sub (expr_places (negated p o)) (t.place.0 ∷ (minus_places o ++ []))
minus_sub t p (inl z) = plain p _ (Form-F.Const (const.Number (negative z))) _ (out_const _) refl
minus_sub t p (inr e) = same_left (at_is p (form.Unary unary.Minus e) (Form-F.Unary unary.Minus e) (out_unary unary.Minus e)) (passed (last (expr_places e)))

named_sub : (t : Token) (p : Place) (x : Name) (args : Option (List Expr)) → t.place ≡ p → Sub (expr_places (at p (named x args))) (t.place.0 ∷ (call_places args ++ []))
named_sub t p x None e = plain p _ (Form-F.Var x) _ (out_var x) refl
named_sub t p x (Some es) e = at_token t p (form.Call x es) (args_places es ++ []) e (same_left (ap inner (out_call x es)) (last (args_places es)))

nodes_append : (ms ns : List Node) → nodes_places (ms ++ ns) ≡ nodes_places ms ++ nodes_places ns
nodes_append [] ns = refl
nodes_append (m ∷ ms) ns = ap (λ (x : List ℕ). block_places m.block ++ x) (nodes_append ms ns) ∙ sym (append_assoc (block_places m.block) (nodes_places ms) (nodes_places ns))

-- ---- each rule

whole_fine : Each (Fine Whole) (rules Whole)
whole_fine = (
  λ p us b. empty,
  (
    λ p (i, (w, _)) b. same_left (nodes_append i.nodes w.nodes) (two (nodes_places i.nodes) (nodes_places w.nodes)),
    tt,
  ),
)

item_fine : Each (Fine Item) (rules Item)
item_fine = (
  λ p (n, _) b. all (block_places n.block ++ []),
  (
    λ p us b. empty,
    tt,
  ),
)

node_dec_fine : Each (Fine Node_dec) (rules Node_dec)
node_dec_fine = (λ p (_, (_, (_, (body, _)))) b. passed (passed (last (block_places body))), tt)

node_body_fine : Each (Fine Node_body) (rules Node_body)
node_body_fine = (λ p (locals, (_, (eqs, (t, _)))) b. same_left (block_is (record { locals = locals; body = eqs })) (passed (left (concat (map equation_places eqs)) (t.place.0 ∷ []))), tt)

eqs_fine : Each (Fine Eqs) (rules Eqs)
eqs_fine = (
  λ p us b. empty,
  (
    λ p (e, (more, _)) b. two (equation_places e) (concat (map equation_places more)),
    tt,
  ),
)

more_eqs_fine : Each (Fine More_eqs) (rules More_eqs)
more_eqs_fine = (
  λ p us b. empty,
  (
    λ p (_, (eqs, _)) b. passed (last (concat (map equation_places eqs))),
    tt,
  ),
)

eq_fine : Each (Fine Eq) (rules Eq)
eq_fine = (
  λ p (name, (_, (e, _))) b. same_left (define_is p (name.name ∷ []) e) (passed (passed (last (expr_places e)))),
  (
    λ p (_, (several, _)) b. same_left (define_is p several.0 several.1) (passed (last (expr_places several.1))),
    (
      λ p (_, (switching, _)) b. same_left (switch_is p switching.0 switching.1) (passed (last (expr_places switching.0 ++ branches_places switching.1))),
      (
        λ p (_, (resetting, _)) b. same_left (reset_is p resetting.0 resetting.1) (passed (last (block_places resetting.0 ++ expr_places resetting.1))),
        (
          λ p (_, (states, (t, _))) b. same_left (automaton_is p states) (passed (left (concat (map state_places states)) (t.place.0 ∷ []))),
          tt,
        ),
      ),
    ),
  ),
)

several_fine : Each (Fine Several) (rules Several)
several_fine = (λ p (_, (_, (_, (e, _)))) b. passed (passed (last (expr_places e))), tt)

switching_fine : Each (Fine Switching) (rules Switching)
switching_fine = (λ p (e, (bs, (t, _))) b. two_then (expr_places e) (branches_places bs) (t.place.0 ∷ []), tt)

resetting_fine : Each (Fine Resetting) (rules Resetting)
resetting_fine = (λ p (block, (t, (e, _))) b. both (expr_places e) (t.place.0 ∷ (expr_places e ++ [])) (all (block_places block)) (passed (last (expr_places e))), tt)

branch_list_fine : Each (Fine Branch_list) (rules Branch_list)
branch_list_fine = (λ p (branch, (bs, _)) b. two (block_places branch.block) (branches_places bs), tt)

branches_fine : Each (Fine Branches) (rules Branches)
branches_fine = (
  λ p us b. empty,
  (
    λ p (branch, (bs, _)) b. two (block_places branch.block) (branches_places bs),
    tt,
  ),
)

branch_of_fine : Each (Fine Branch_of) (rules Branch_of)
branch_of_fine = (λ p (_, (_, (_, (block, _)))) b. passed (passed (last (block_places block))), tt)

block_of_fine : Each (Fine Block_of) (rules Block_of)
block_of_fine = (λ p (locals, (eqs, _)) b. same_left (block_is (record { locals = locals; body = eqs })) (last (concat (map equation_places eqs))), tt)

state_list_fine : Each (Fine State_list) (rules State_list)
state_list_fine = (λ p (state, (states, _)) b. two (state_places state) (concat (map state_places states)), tt)

states_fine : Each (Fine States) (rules States)
states_fine = (
  λ p us b. empty,
  (
    λ p (state, (states, _)) b. two (state_places state) (concat (map state_places states)),
    tt,
  ),
)

state_of_fine : Each (Fine State_of) (rules State_of)
state_of_fine = (λ p (_, (_, (_, (block, (transitions, _))))) b. passed (passed (passed (two (block_places block) (condition_places transitions.0 ++ condition_places transitions.1)))), tt)

transitions_fine : Each (Fine Transitions) (rules Transitions)
transitions_fine = (λ p (weak, (strong, _)) b. two (condition_places weak) (condition_places strong), tt)

weak_fine : Each (Fine Weak) (rules Weak)
weak_fine = (
  λ p us b. empty,
  (
    λ p (_, (escapes, _)) b. passed (last (condition_places escapes)),
    tt,
  ),
)

strong_fine : Each (Fine Strong) (rules Strong)
strong_fine = (
  λ p us b. empty,
  (
    λ p (_, (escapes, _)) b. passed (last (condition_places escapes)),
    tt,
  ),
)

escapes_fine : Each (Fine Escapes) (rules Escapes)
escapes_fine = (
  λ p (escapes, _) b. last (condition_places escapes),
  (
    λ p (_, (escapes, _)) b. passed (last (condition_places escapes)),
    tt,
  ),
)

escape_list_fine : Each (Fine Escape_list) (rules Escape_list)
escape_list_fine = (λ p (escape, (more, _)) b. two (expr_places escape.condition) (condition_places more), tt)

more_escapes_fine : Each (Fine More_escapes) (rules More_escapes)
more_escapes_fine = (
  λ p us b. empty,
  (
    λ p (_, (escape, (more, _))) b. passed (two (expr_places escape.condition) (condition_places more)),
    tt,
  ),
)

escape_of_fine : Each (Fine Escape_of) (rules Escape_of)
escape_of_fine = (λ p (e, _) b. last (expr_places e), tt)

expression_fine : Each (Fine Expression) (rules Expression)
expression_fine = (
  λ p (e, _) b. last (expr_places e),
  (
    λ p (t, (f, _)) b. at_token t p f (inner_places f ++ []) b (last (inner_places f)),
    tt,
  ),
)

choosing_fine : Each (Fine Choosing) (rules Choosing)
choosing_fine = (λ p (c, (x, (y, _))) b. same_left (ap inner (out_if c x y)) (both (expr_places x ++ expr_places y) (expr_places x ++ (expr_places y ++ [])) (all (expr_places c)) (two (expr_places x) (expr_places y))), tt)

then_part_fine : Each (Fine Then_part) (rules Then_part)
then_part_fine = (λ p (_, (e, _)) b. passed (last (expr_places e)), tt)

else_part_fine : Each (Fine Else_part) (rules Else_part)
else_part_fine = (λ p (_, (e, _)) b. passed (last (expr_places e)), tt)

arrows_fine : Each (Fine Arrows) (rules Arrows)
arrows_fine = (λ p (e, (tail, _)) b. arrow_sub e tail, tt)

fbys_fine : Each (Fine Fbys) (rules Fbys)
fbys_fine = (λ p (e, (tail, _)) b. fby_sub e tail, tt)

arrow_tail_fine : Each (Fine Arrow_tail) (rules Arrow_tail)
arrow_tail_fine = (
  λ p us b. empty,
  (
    λ p (_, (e, _)) b. passed (last (expr_places e)),
    tt,
  ),
)

fby_tail_fine : Each (Fine Fby_tail) (rules Fby_tail)
fby_tail_fine = (
  λ p us b. empty,
  (
    λ p (_, (e, _)) b. passed (last (expr_places e)),
    tt,
  ),
)

sampled_fine : Each (Fine Sampled) (rules Sampled)
sampled_fine = (λ p (e, (more, _)) b. same_left (sampled_is e more) (last (expr_places e)), tt)

prefix_fine : Each (Fine Prefix) (rules Prefix)
prefix_fine = (
  λ p (e, _) b. last (expr_places e),
  (
    λ p us b. plain p _ (Form-F.Const _) _ (out_const _) refl,
    (
      λ p (e, _) b. last (expr_places e),
      tt,
    ),
  ),
)

signed_fine : Each (Fine Signed) (rules Signed)
signed_fine = (
  λ p (t, (o, _)) b. minus_sub t p o,
  (
    λ p (_, (e, _)) b. same_left (at_is p (form.Unary unary.Not e) (Form-F.Unary unary.Not e) (out_unary unary.Not e)) (passed (last (expr_places e))),
    (
      λ p (_, (e, _)) b. same_left (at_is p (form.Pre e) (Form-F.Pre e) (out_pre e)) (passed (last (expr_places e))),
      (
        λ p (_, (e, _)) b. same_left (at_is p (form.Get e) (Form-F.Get e) (out_get e)) (passed (last (expr_places e))),
        tt,
      ),
    ),
  ),
)

after_minus_fine : Each (Fine After_minus) (rules After_minus)
after_minus_fine = (
  λ p (e, _) b. last (expr_places e),
  (
    λ p us b. empty,
    (
      λ p (e, _) b. last (expr_places e),
      tt,
    ),
  ),
)

atom_fine : Each (Fine Atom) (rules Atom)
atom_fine = (
  λ p (e, _) b. last (expr_places e),
  (
    λ p (t, (args, _)) b. named_sub t p t.name args b,
    (
      λ p (_, (e, (t, _))) b. passed (left (expr_places e) (t.place.0 ∷ [])),
      (
        λ p (t, (f, _)) b. at_token t p f (inner_places f ++ []) b (last (inner_places f)),
        (
          λ p (t, (f, _)) b. at_token t p f (inner_places f ++ []) b (last (inner_places f)),
          tt,
        ),
      ),
    ),
  ),
)

literal_fine : Each (Fine Literal) (rules Literal)
literal_fine = (
  λ p us b. plain p _ (Form-F.Const _) _ (out_const _) refl,
  (
    λ p us b. plain p _ (Form-F.Const _) _ (out_const _) refl,
    (
      λ p us b. plain p _ (Form-F.Const _) _ (out_const _) refl,
      (
        λ p (_, (name, _)) b. plain p _ (Form-F.Last name.name) _ (out_last name.name) refl,
        tt,
      ),
    ),
  ),
)

call_tail_fine : Each (Fine Call_tail) (rules Call_tail)
call_tail_fine = (
  λ p us b. empty,
  (
    λ p (args, _) b. last (args_places args),
    tt,
  ),
)

called_fine : Each (Fine Called) (rules Called)
called_fine = (λ p (_, (args, (t, _))) b. passed (left (args_places args) (t.place.0 ∷ [])), tt)

merging_fine : Each (Fine Merging) (rules Merging)
merging_fine = (λ p (name, (bs, _)) b. same_left (ap inner (out_merge name.name bs)) (passed (last (merge_places bs))), tt)

merge_list_fine : Each (Fine Merge_list) (rules Merge_list)
merge_list_fine = (λ p (branch, (bs, _)) b. two (expr_places branch.value) (merge_places bs), tt)

merge_branches_fine : Each (Fine Merge_branches) (rules Merge_branches)
merge_branches_fine = (
  λ p us b. empty,
  (
    λ p (branch, (bs, _)) b. two (expr_places branch.value) (merge_places bs),
    tt,
  ),
)

merge_branch_fine : Each (Fine Merge_branch) (rules Merge_branch)
merge_branch_fine = (λ p (_, (_, (_, (e, (t, _))))) b. passed (passed (left (expr_places e) (t.place.0 ∷ []))), tt)

async_tail_fine : Each (Fine Async_tail) (rules Async_tail)
async_tail_fine = (
  λ p (k, _) b. same_left (ap inner (out_async_const k)) empty,
  (
    λ p (name, (args, _)) b. same_left (ap inner (out_async_call 2 name.name args)) (passed (last (args_places args))),
    (
      λ p (_, (number, (_, (name, (args, _))))) b. same_left (ap inner (out_async_call (size number.number) name.name args)) (passed (passed (passed (passed (last (args_places args)))))),
      tt,
    ),
  ),
)

args_fine : Each (Fine Args) (rules Args)
args_fine = (
  λ p us b. empty,
  (
    λ p (e, (more, _)) b. two (expr_places e) (args_places more),
    tt,
  ),
)

more_args_fine : Each (Fine More_args) (rules More_args)
more_args_fine = (
  λ p us b. empty,
  (
    λ p (_, (e, (more, _))) b. passed (two (expr_places e) (args_places more)),
    tt,
  ),
)

infix_fine : (l : Level) → Each (Fine (Infix l)) (rules (Infix l))
infix_fine l = (λ p (e, (more, _)) b. same_left (grouped_is e more) (two (expr_places e) (operands_places more)), tt)

operand_fine : (l : Level) → Each (Fine (Operand l)) (rules (Operand l))
operand_fine level.Or = (λ p (e, _) b. last (expr_places e), tt)
operand_fine level.And = (λ p (e, _) b. last (expr_places e), tt)
operand_fine level.Comparison = (λ p (e, _) b. last (expr_places e), tt)
operand_fine level.Sum = (λ p (e, _) b. last (expr_places e), tt)
operand_fine level.Product = (λ p (e, _) b. last (expr_places e), tt)

signs_fine : (l : Level) (ks : List Kind) → Each (Fine (Operands (Some l))) (map (infix_rule l) ks)
signs_fine l [] = tt
signs_fine l (k ∷ ks) = (λ p (_, (e, (more, _))) b. passed (two (expr_places e) (operands_places more)), signs_fine l ks)

operands_fine : (o : Option Level) → Each (Fine (Operands o)) (rules (Operands o))
operands_fine None = (λ p us b. empty, tt)
operands_fine (Some l) = (λ p us b. empty, signs_fine l (signs l))

pub all_fine : (n : Part) → Each (Fine n) (rules n)
all_fine (Infix l) = infix_fine l
all_fine (Operand l) = operand_fine l
all_fine (Operands o) = operands_fine o
all_fine Whole = whole_fine
all_fine Item = item_fine
all_fine Node_dec = node_dec_fine
all_fine Node_body = node_body_fine
all_fine Eqs = eqs_fine
all_fine More_eqs = more_eqs_fine
all_fine Eq = eq_fine
all_fine Several = several_fine
all_fine Switching = switching_fine
all_fine Resetting = resetting_fine
all_fine Branch_list = branch_list_fine
all_fine Branches = branches_fine
all_fine Branch_of = branch_of_fine
all_fine Block_of = block_of_fine
all_fine State_list = state_list_fine
all_fine States = states_fine
all_fine State_of = state_of_fine
all_fine Transitions = transitions_fine
all_fine Weak = weak_fine
all_fine Strong = strong_fine
all_fine Escapes = escapes_fine
all_fine Escape_list = escape_list_fine
all_fine More_escapes = more_escapes_fine
all_fine Escape_of = escape_of_fine
all_fine Expression = expression_fine
all_fine Choosing = choosing_fine
all_fine Then_part = then_part_fine
all_fine Else_part = else_part_fine
all_fine Arrows = arrows_fine
all_fine Fbys = fbys_fine
all_fine Arrow_tail = arrow_tail_fine
all_fine Fby_tail = fby_tail_fine
all_fine Sampled = sampled_fine
all_fine Prefix = prefix_fine
all_fine Signed = signed_fine
all_fine After_minus = after_minus_fine
all_fine Atom = atom_fine
all_fine Literal = literal_fine
all_fine Call_tail = call_tail_fine
all_fine Called = called_fine
all_fine Merging = merging_fine
all_fine Merge_list = merge_list_fine
all_fine Merge_branches = merge_branches_fine
all_fine Merge_branch = merge_branch_fine
all_fine Async_tail = async_tail_fine
all_fine Args = args_fine
all_fine More_args = more_args_fine
all_fine n = no_calls n (λ v. refl) (rules n)
