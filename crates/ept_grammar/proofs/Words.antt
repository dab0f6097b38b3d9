-- Which token begins which rule.
use Rattle.std.specs.Prelude.{◌≡◌, ◌≢◌, Bool, true, false, if◌then◌else◌, List, [], ◌++◌, Option, Some, None, refl}
use Rattle.std.specs.List.{list_all}
use Rattle.std.proofs.Common.{◌∷◌, ◌∙◌, sym, ap, inr}
use Rattle.hept_ast.specs.declared.tree.BinaryOp.{BinaryOp}
use Rattle.ept_tokens.specs.declared.token.Kind.{Kind}
use Rattle.ept_tokens.specs.declared.token.Kind.TheVariants.{Arrow, Async, Automaton, Bang, Bar, Bool as Bool_word, Comma, Continue, False, Fby, Future, If, Last, Lower, Merge, Minus, Node as Node_word, Not, Number, OpenAngle, OpenParen, Pre, Reset, Semicolon, State as State_word, Switch, True, «Type» as Type_word, Unless, Until, Upper, Var, When, Whenot}
use Rattle.ept_grammar.specs.declared.parts.Level.{Level}
use Rattle.ept_grammar.specs.declared.parts.Level.TheVariants as level
use Rattle.ept_grammar.specs.declared.parts.Counts.{Counts}
use Rattle.ept_tokens.specs.declared.token.Token.{Token}
use Rattle.ept_tokens.specs.Kinds.{kinds}
use Rattle.ept_grammar.specs.Grammar.{Among, here, there, Part, Rule, part, place_of, rules, Prefix, After_minus, Item, Node_dec, Samples, Args, Eqs, Called, Merge_branch, Branch_of, State_of, Input, Declaration, Last_decls, Whole, Type_dec, beside, one_of, signs, sign, sign_at, Operands, Arrow_tail, Fby_tail, Call_tail, More_args, Merge_branches, More_names, Constructors, Branches, States, Locals, Block_locals, Weak, Strong, More_escapes, More_inputs, More_decls, More_eqs, Inputs, Expression, Signed, Atom, Literal, Async_tail, Constant, Tag_of, Plain_type, Type_of, Initial, Sampling, Sample_of, Target, Eq, Escapes}
use Rattle.ept_grammar.specs.Reading.{look, first, begins, is_empty, may_begin, To}
use Rattle.ept_grammar.proofs.Steps.{begin_at, begun, begun_first, others}
use Rattle.ept_grammar.proofs.Theory.{chosen_begins}
use Rattle.ept_tokens.proofs.Bools.{true≢false, implies, or_left}
use Rattle.ept_grammar.proofs.Among.{all_of}
use Rattle.ept_grammar.proofs.EachKind.{in_kinds, is_other}

-- ---- parts that nothing spells, where none of these tokens is next

pub arrow_tail_first : (o : Option Kind) → o ≢ Some Arrow → may_begin Arrow_tail o ≡ false
unfolding first is_empty
arrow_tail_first None a = refl
arrow_tail_first (Some k) a = rw (is_other Arrow k (λ e. a (ap (λ x. Some x) e))) refl

pub fby_tail_first : (o : Option Kind) → o ≢ Some Fby → may_begin Fby_tail o ≡ false
unfolding first is_empty
fby_tail_first None a = refl
fby_tail_first (Some k) a = rw (is_other Fby k (λ e. a (ap (λ x. Some x) e))) refl

pub call_tail_first : (o : Option Kind) → o ≢ Some OpenParen → may_begin Call_tail o ≡ false
unfolding first is_empty
call_tail_first None a = refl
call_tail_first (Some k) a = rw (is_other OpenParen k (λ e. a (ap (λ x. Some x) e))) refl

pub more_args_first : (o : Option Kind) → o ≢ Some Comma → may_begin More_args o ≡ false
unfolding first is_empty
more_args_first None a = refl
more_args_first (Some k) a = rw (is_other Comma k (λ e. a (ap (λ x. Some x) e))) refl

pub merge_branches_first : (o : Option Kind) → o ≢ Some OpenParen → may_begin Merge_branches o ≡ false
unfolding first is_empty
merge_branches_first None a = refl
merge_branches_first (Some k) a = rw (is_other OpenParen k (λ e. a (ap (λ x. Some x) e))) refl

pub more_names_first : (o : Option Kind) → o ≢ Some Comma → may_begin More_names o ≡ false
unfolding first is_empty
more_names_first None a = refl
more_names_first (Some k) a = rw (is_other Comma k (λ e. a (ap (λ x. Some x) e))) refl

pub constructors_first : (o : Option Kind) → o ≢ Some Bar → may_begin Constructors o ≡ false
unfolding first is_empty
constructors_first None a = refl
constructors_first (Some k) a = rw (is_other Bar k (λ e. a (ap (λ x. Some x) e))) refl

pub branches_first : (o : Option Kind) → o ≢ Some Bar → may_begin Branches o ≡ false
unfolding first is_empty
branches_first None a = refl
branches_first (Some k) a = rw (is_other Bar k (λ e. a (ap (λ x. Some x) e))) refl

pub states_first : (o : Option Kind) → o ≢ Some State_word → may_begin States o ≡ false
unfolding first is_empty
states_first None a = refl
states_first (Some k) a = rw (is_other State_word k (λ e. a (ap (λ x. Some x) e))) refl

pub locals_first : (o : Option Kind) → o ≢ Some Var → may_begin Locals o ≡ false
unfolding first is_empty
locals_first None a = refl
locals_first (Some k) a = rw (is_other Var k (λ e. a (ap (λ x. Some x) e))) refl

pub block_locals_first : (o : Option Kind) → o ≢ Some Var → may_begin Block_locals o ≡ false
unfolding first is_empty
block_locals_first None a = refl
block_locals_first (Some k) a = rw (is_other Var k (λ e. a (ap (λ x. Some x) e))) refl

pub weak_first : (o : Option Kind) → o ≢ Some Until → may_begin Weak o ≡ false
unfolding first is_empty
weak_first None a = refl
weak_first (Some k) a = rw (is_other Until k (λ e. a (ap (λ x. Some x) e))) refl

pub strong_first : (o : Option Kind) → o ≢ Some Unless → may_begin Strong o ≡ false
unfolding first is_empty
strong_first None a = refl
strong_first (Some k) a = rw (is_other Unless k (λ e. a (ap (λ x. Some x) e))) refl

pub more_escapes_first : (o : Option Kind) → o ≢ Some Bar → may_begin More_escapes o ≡ false
unfolding first is_empty
more_escapes_first None a = refl
more_escapes_first (Some k) a = rw (is_other Bar k (λ e. a (ap (λ x. Some x) e))) refl

pub more_inputs_first : (o : Option Kind) → o ≢ Some Semicolon → may_begin More_inputs o ≡ false
unfolding first is_empty
more_inputs_first None a = refl
more_inputs_first (Some k) a = rw (is_other Semicolon k (λ e. a (ap (λ x. Some x) e))) refl

pub more_decls_first : (o : Option Kind) → o ≢ Some Semicolon → may_begin More_decls o ≡ false
unfolding first is_empty
more_decls_first None a = refl
more_decls_first (Some k) a = rw (is_other Semicolon k (λ e. a (ap (λ x. Some x) e))) refl

pub more_eqs_first : (o : Option Kind) → o ≢ Some Semicolon → may_begin More_eqs o ≡ false
unfolding first is_empty
more_eqs_first None a = refl
more_eqs_first (Some k) a = rw (is_other Semicolon k (λ e. a (ap (λ x. Some x) e))) refl

pub inputs_first : (o : Option Kind) → o ≢ Some Lower → may_begin Inputs o ≡ false
unfolding first is_empty
inputs_first None a = refl
inputs_first (Some k) a = rw (is_other Lower k (λ e. a (ap (λ x. Some x) e))) refl

-- ---- the first rule of a part, where none of these tokens is next

pub expression_front : (o : Option Kind) → o ≢ Some If → begin_at o (others (rules Expression)) ≡ None
unfolding first is_empty
expression_front None a = refl
expression_front (Some k) a = rw (is_other If k (λ e. a (ap (λ x. Some x) e))) refl

pub signed_front : (o : Option Kind) → o ≢ Some Not → o ≢ Some Pre → o ≢ Some Bang → begin_at o (others (rules Signed)) ≡ None
unfolding first is_empty
signed_front None a b c = refl
signed_front (Some k) a b c = rw (is_other Not k (λ e. a (ap (λ x. Some x) e)), is_other Pre k (λ e. b (ap (λ x. Some x) e)), is_other Bang k (λ e. c (ap (λ x. Some x) e))) refl

pub atom_front : (o : Option Kind) → o ≢ Some Lower → o ≢ Some OpenParen → o ≢ Some Merge → o ≢ Some Async → begin_at o (others (rules Atom)) ≡ None
unfolding first is_empty
atom_front None a b c d = refl
atom_front (Some k) a b c d = rw (is_other Lower k (λ e. a (ap (λ x. Some x) e)), is_other OpenParen k (λ e. b (ap (λ x. Some x) e)), is_other Merge k (λ e. c (ap (λ x. Some x) e)), is_other Async k (λ e. d (ap (λ x. Some x) e))) refl

pub literal_front : (o : Option Kind) → o ≢ Some True → o ≢ Some False → o ≢ Some Last → begin_at o (others (rules Literal)) ≡ None
unfolding first is_empty
literal_front None a b c = refl
literal_front (Some k) a b c = rw (is_other True k (λ e. a (ap (λ x. Some x) e)), is_other False k (λ e. b (ap (λ x. Some x) e)), is_other Last k (λ e. c (ap (λ x. Some x) e))) refl

pub async_tail_front : (o : Option Kind) → o ≢ Some Lower → o ≢ Some OpenAngle → begin_at o (others (rules Async_tail)) ≡ None
unfolding first is_empty
async_tail_front None a b = refl
async_tail_front (Some k) a b = rw (is_other Lower k (λ e. a (ap (λ x. Some x) e)), is_other OpenAngle k (λ e. b (ap (λ x. Some x) e))) refl

pub constant_front : (o : Option Kind) → o ≢ Some Minus → o ≢ Some True → o ≢ Some False → o ≢ Some Upper → begin_at o (others (rules Constant)) ≡ None
unfolding first is_empty
constant_front None a b c d = refl
constant_front (Some k) a b c d = rw (is_other Minus k (λ e. a (ap (λ x. Some x) e)), is_other True k (λ e. b (ap (λ x. Some x) e)), is_other False k (λ e. c (ap (λ x. Some x) e)), is_other Upper k (λ e. d (ap (λ x. Some x) e))) refl

pub tag_of_front : (o : Option Kind) → o ≢ Some True → o ≢ Some False → begin_at o (others (rules Tag_of)) ≡ None
unfolding first is_empty
tag_of_front None a b = refl
tag_of_front (Some k) a b = rw (is_other True k (λ e. a (ap (λ x. Some x) e)), is_other False k (λ e. b (ap (λ x. Some x) e))) refl

pub plain_type_front : (o : Option Kind) → o ≢ Some Bool_word → o ≢ Some Lower → begin_at o (others (rules Plain_type)) ≡ None
unfolding first is_empty
plain_type_front None a b = refl
plain_type_front (Some k) a b = rw (is_other Bool_word k (λ e. a (ap (λ x. Some x) e)), is_other Lower k (λ e. b (ap (λ x. Some x) e))) refl

pub type_of_front : (o : Option Kind) → o ≢ Some Future → begin_at o (others (rules Type_of)) ≡ None
unfolding first is_empty
type_of_front None a = refl
type_of_front (Some k) a = rw (is_other Future k (λ e. a (ap (λ x. Some x) e))) refl

pub initial_front : (o : Option Kind) → o ≢ Some Async → begin_at o (others (rules Initial)) ≡ None
unfolding first is_empty
initial_front None a = refl
initial_front (Some k) a = rw (is_other Async k (λ e. a (ap (λ x. Some x) e))) refl

pub sampling_front : (o : Option Kind) → o ≢ Some Lower → begin_at o (others (rules Sampling)) ≡ None
unfolding first is_empty
sampling_front None a = refl
sampling_front (Some k) a = rw (is_other Lower k (λ e. a (ap (λ x. Some x) e))) refl

pub sample_of_front : (o : Option Kind) → o ≢ Some Whenot → begin_at o (others (rules Sample_of)) ≡ None
unfolding first is_empty
sample_of_front None a = refl
sample_of_front (Some k) a = rw (is_other Whenot k (λ e. a (ap (λ x. Some x) e))) refl

pub target_front : (o : Option Kind) → o ≢ Some Continue → begin_at o (others (rules Target)) ≡ None
unfolding first is_empty
target_front None a = refl
target_front (Some k) a = rw (is_other Continue k (λ e. a (ap (λ x. Some x) e))) refl

pub eq_front : (o : Option Kind) → o ≢ Some OpenParen → o ≢ Some Switch → o ≢ Some Reset → o ≢ Some Automaton → begin_at o (others (rules Eq)) ≡ None
unfolding first is_empty
eq_front None a b c d = refl
eq_front (Some k) a b c d = rw (is_other OpenParen k (λ e. a (ap (λ x. Some x) e)), is_other Switch k (λ e. b (ap (λ x. Some x) e)), is_other Reset k (λ e. c (ap (λ x. Some x) e)), is_other Automaton k (λ e. d (ap (λ x. Some x) e))) refl

pub declaration_front : (o : Option Kind) → o ≢ Some Last → begin_at o (others (rules Declaration)) ≡ None
unfolding first is_empty
declaration_front None a = refl
declaration_front (Some k) a = rw (is_other Last k (λ e. a (ap (λ x. Some x) e))) refl

pub escapes_front : (o : Option Kind) → o ≢ Some Bar → begin_at o (others (rules Escapes)) ≡ None
unfolding first is_empty
escapes_front None a = refl
escapes_front (Some k) a = rw (is_other Bar k (λ e. a (ap (λ x. Some x) e))) refl

-- ---- infix signs

operands_first : (l : Level) (k : Kind) → first (Operands (Some l)) k ≡ one_of (signs l) k
unfolding first is_empty
operands_first level.Or k = refl
operands_first level.And k = refl
operands_first level.Comparison k = refl
operands_first level.Sum k = refl
operands_first level.Product k = refl

none_of : (l : Level) (k : Kind) → None ≡ sign_at l k → one_of (signs l) k ≡ false
none_of l k e = go (one_of (signs l) k) e
  where
    go : (b : Bool) → None ≡ (if b then Some (sign k) else None) → b ≡ false
    go true f = absurd cc
    go false f = refl

-- no sign of the level is next
pub no_sign : (l : Level) (ts : List Token) (t : Token) (rest : List Token) → ts ≡ t ∷ rest → None ≡ sign_at l t.kind → may_begin (Operands (Some l)) (look ts) ≡ false
no_sign l ts t rest e n = rw e (operands_first l t.kind ∙ none_of l t.kind n)

pub some_sign : (l : Level) (k : Kind) (o : BinaryOp) → sign_at l k ≡ Some o → (one_of (signs l) k ≡ true) × (o ≡ sign k)
some_sign l k o e = go (one_of (signs l) k) e
  where
    go : (b : Bool) → (if b then Some (sign k) else None) ≡ Some o → (b ≡ true) × (o ≡ sign k)
    go true f = (refl, cc)
    go false f = absurd cc

-- ---- parts that begin with parts

begun_rule : {n : Part} (m : Part) {text : List Token} {c : Counts} {r : Rule n} → Among r (rules n) → ((k : Kind) → first m k ≡ true → begins first r.right k ≡ true) → may_begin m (look text) ≡ true → To n text c r.right (r.gives (place_of text)) text c
begun_rule m {text = []} i h e = absurd (true≢false (sym e))
begun_rule {n = n} m {text = t ∷ ts} i h e = begun _ (chosen_begins n t.kind i (h t.kind e))

pub prefix_signed : {text : List Token} {c : Counts} → may_begin Signed (look text) ≡ true → To Prefix text c (part Signed ∷ []) (λ us. us.0) text c
prefix_signed e = begun_rule Signed (there (there here)) (λ k f. or_left (first Signed k) _ f) e

pub after_minus_signed : {text : List Token} {c : Counts} → may_begin Signed (look text) ≡ true → To After_minus text c (part Signed ∷ []) (λ us. inr us.0) text c
after_minus_signed e = begun_rule Signed (there (there here)) (λ k f. or_left (first Signed k) _ f) e

pub args_begun : {text : List Token} {c : Counts} → may_begin Expression (look text) ≡ true → To Args text c (part Expression ∷ part More_args ∷ []) (λ us. us.0 ∷ us.1.0) text c
args_begun e = begun_rule Expression (there here) (λ k f. or_left (first Expression k) _ f) e

pub eqs_begun : {text : List Token} {c : Counts} → may_begin Eq (look text) ≡ true → To Eqs text c (part Eq ∷ part More_eqs ∷ []) (λ us. us.0 ∷ us.1.0) text c
eqs_begun e = begun_rule Eq (there here) (λ k f. or_left (first Eq k) _ f) e

pub prefix_atom : {text : List Token} {c : Counts} → look text ≢ Some Number → may_begin Signed (look text) ≡ false → To Prefix text c (part Atom ∷ []) (λ us. us.0) text c
unfolding is_empty
prefix_atom {text = []} a b = begun_first refl refl refl
prefix_atom {text = t ∷ ts} a b = begun_first refl refl (rw (is_other Number t.kind (λ e. a (ap (λ x. Some x) e)), b) refl)

pub after_minus_atom : {text : List Token} {c : Counts} → look text ≢ Some Number → may_begin Signed (look text) ≡ false → To After_minus text c (part Atom ∷ []) (λ us. inr us.0) text c
unfolding is_empty
after_minus_atom {text = []} a b = begun_first refl refl refl
after_minus_atom {text = t ∷ ts} a b = begun_first refl refl (rw (is_other Number t.kind (λ e. a (ap (λ x. Some x) e)), b) refl)

pub item_node : {text : List Token} {c : Counts} → look text ≢ Some Type_word → To Item text c (part Node_dec ∷ []) (λ us. record { types = []; nodes = us.0 ∷ [] }) text c
unfolding first is_empty
item_node {text = []} a = begun_first refl refl refl
item_node {text = t ∷ ts} a = begun_first refl refl (rw (is_other Type_word t.kind (λ e. a (ap (λ x. Some x) e))) refl)

pub samples_begun : {text : List Token} {c : Counts} → may_begin Sample_of (look text) ≡ true → To Samples text c (part Sample_of ∷ part Samples ∷ []) (λ us. us.0 ∷ us.1.0) text c
samples_begun e = begun_rule Sample_of (there here) (λ k f. or_left (first Sample_of k) _ f) e

-- where one part may not begin, neither may another
first_in : (n m : Part) → list_all (λ k. implies (first n k) (first m k)) kinds ≡ true → (o : Option Kind) → may_begin m o ≡ false → may_begin n o ≡ false
first_in n m e None f = refl
first_in n m e (Some k) f = go (first n k) (first m k) (all_of (λ j. implies (first n j) (first m j)) (in_kinds k) e) f
  where
    go : (a b : Bool) → implies a b ≡ true → b ≡ false → a ≡ false
    go true b g h = absurd (true≢false (sym g ∙ h))
    go false b g h = refl

samples_kinds : list_all (λ k. implies (first Samples k) (first Sample_of k)) kinds ≡ true
unfolding first is_empty
samples_kinds = refl

pub samples_first : (o : Option Kind) → may_begin Sample_of o ≡ false → may_begin Samples o ≡ false
samples_first o e = first_in Samples Sample_of samples_kinds o e

args_kinds : list_all (λ k. implies (first Args k) (first Expression k)) kinds ≡ true
unfolding first is_empty
args_kinds = refl

pub args_first : (o : Option Kind) → may_begin Expression o ≡ false → may_begin Args o ≡ false
args_first o e = first_in Args Expression args_kinds o e

eqs_kinds : list_all (λ k. implies (first Eqs k) (first Eq k)) kinds ≡ true
unfolding first is_empty
eqs_kinds = refl

pub eqs_first : (o : Option Kind) → may_begin Eq o ≡ false → may_begin Eqs o ≡ false
eqs_first o e = first_in Eqs Eq eqs_kinds o e

pub called_begins : begins first (part Called ∷ []) OpenParen ≡ true
unfolding first is_empty
called_begins = refl

pub merge_branch_begins : begins first (part Merge_branch ∷ part Merge_branches ∷ []) OpenParen ≡ true
unfolding first is_empty
merge_branch_begins = refl

pub branch_begins : begins first (part Branch_of ∷ part Branches ∷ []) Bar ≡ true
unfolding first is_empty
branch_begins = refl

pub state_begins : begins first (part State_of ∷ part States ∷ []) State_word ≡ true
unfolding first is_empty
state_begins = refl

pub input_begins : begins first (part Input ∷ part More_inputs ∷ []) Lower ≡ true
unfolding first is_empty
input_begins = refl

pub last_decls_begun : {text : List Token} {c : Counts} → may_begin Declaration (look text) ≡ true → To Last_decls text c (part Declaration ∷ part More_decls ∷ []) (λ us. us.0 ++ us.1.0) text c
last_decls_begun e = begun_rule Declaration (there here) (λ k f. or_left (first Declaration k) _ f) e

last_decls_kinds : list_all (λ k. implies (first Last_decls k) (first Declaration k)) kinds ≡ true
unfolding first is_empty
last_decls_kinds = refl

pub last_decls_first : (o : Option Kind) → may_begin Declaration o ≡ false → may_begin Last_decls o ≡ false
last_decls_first o e = first_in Last_decls Declaration last_decls_kinds o e

pub whole_begun : {text : List Token} {c : Counts} → may_begin Item (look text) ≡ true → To Whole text c (part Item ∷ part Whole ∷ []) (λ us. beside us.0 us.1.0) text c
whole_begun e = begun_rule Item (there here) (λ k f. or_left (first Item k) _ f) e

whole_kinds : list_all (λ k. implies (first Whole k) (first Item k)) kinds ≡ true
unfolding first is_empty
whole_kinds = refl

pub whole_first : (o : Option Kind) → may_begin Item o ≡ false → may_begin Whole o ≡ false
whole_first o e = first_in Whole Item whole_kinds o e

pub type_begins : begins first (part Type_dec ∷ []) Type_word ≡ true
unfolding first is_empty
type_begins = refl

pub expression_kinds : (k : Kind) → k ≢ Number → k ≢ Lower → k ≢ Upper → k ≢ OpenParen → k ≢ Minus → k ≢ Bang → k ≢ Async → k ≢ False → k ≢ If → k ≢ Last → k ≢ Merge → k ≢ Not → k ≢ Pre → k ≢ True → first Expression k ≡ false
unfolding first is_empty
expression_kinds k a b c d f g h j l m n o p q = rw (is_other Number k a, is_other Lower k b, is_other Upper k c, is_other OpenParen k d, is_other Minus k f, is_other Bang k g, is_other Async k h, is_other False k j, is_other If k l, is_other Last k m, is_other Merge k n, is_other Not k o, is_other Pre k p, is_other True k q) refl

pub signed_kinds : (k : Kind) → k ≢ Minus → k ≢ Not → k ≢ Pre → k ≢ Bang → first Signed k ≡ false
unfolding first is_empty
signed_kinds k a b c d = rw (is_other Minus k a, is_other Not k b, is_other Pre k c, is_other Bang k d) refl

pub declaration_kinds : (k : Kind) → k ≢ Lower → k ≢ Last → first Declaration k ≡ false
unfolding first is_empty
declaration_kinds k a b = rw (is_other Lower k a, is_other Last k b) refl

pub eq_kinds : (k : Kind) → k ≢ Lower → k ≢ OpenParen → k ≢ Switch → k ≢ Reset → k ≢ Automaton → first Eq k ≡ false
unfolding first is_empty
eq_kinds k a b c d f = rw (is_other Lower k a, is_other OpenParen k b, is_other Switch k c, is_other Reset k d, is_other Automaton k f) refl

pub item_kinds : (k : Kind) → k ≢ Node_word → k ≢ Type_word → first Item k ≡ false
unfolding first is_empty
item_kinds k a b = rw (is_other Node_word k a, is_other Type_word k b) refl

pub sample_kinds : (k : Kind) → k ≢ When → k ≢ Whenot → first Sample_of k ≡ false
unfolding first is_empty
sample_kinds k a b = rw (is_other When k a, is_other Whenot k b) refl
