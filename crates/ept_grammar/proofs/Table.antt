-- What is computed of the grammar: it can be read with one token of look-ahead.
use Rattle.std.specs.Prelude.{◌≡◌, Bool, true, not, ◌&&◌, ◌||◌, List, [], ◌∷◌, Some, None, refl}
use Rattle.std.specs.List.{list_any, list_all}
use Rattle.ept_tokens.specs.declared.token.Kind.{Kind}
use Rattle.ept_tokens.specs.declared.token.Kind.TheVariants.{Arrow, AtLeast, AtMost, Automaton, Bar, Both, CloseParen, Colon, Comma, Continue, Differ, Divide, Do, Else, End, Equal, Every, Fby, Greater, In as In_word, Less, Let, Lower, Minus, Mod, Node as Node_word, OpenParen, Or, Percent, Plus, Reset, Returns, Semicolon, State as State_word, Switch, Tel, Then, Times, «Type» as Type_word, Unless, Until, Var, When, Whenot}
use Rattle.ept_grammar.specs.declared.parts.Level.{Level}
use Rattle.ept_grammar.specs.declared.parts.Level.TheVariants as level
use Rattle.ept_tokens.specs.Kinds.{kinds, is}
use Rattle.ept_grammar.specs.Grammar.{Part, Whole, Item, Type_dec, Constructor_list, Constructors, Node_dec, Interface, Input_list, Output_list, Node_body, Inputs, More_inputs, Input, Typed_names, Names, More_names, Locals, Decls, More_decls, Last_decls, Declaration, Initial, Type_of, Plain_type, Constant, Eqs, More_eqs, Eq, Several, Switching, Resetting, Branch_list, Branches, Branch_of, Tag_of, Block_of, Block_locals, State_list, States, State_of, Transitions, Weak, Strong, Escapes, Escape_list, More_escapes, Escape_of, Target, Expression, Choosing, Then_part, Else_part, Arrows, Arrow_tail, Fbys, Fby_tail, Sampled, Samples, Sample_of, Sampling, Infix, Operand, Operands, Prefix, Signed, After_minus, Atom, Literal, Call_tail, Called, Merging, Merge_list, Merge_branches, Merge_branch, Async_tail, Args, More_args, Symbol, word, part, rules}
use Rattle.ept_grammar.specs.Reading.{empties, is_empty, begins, first}
use Rattle.ept_tokens.proofs.Bools.{implies}
use Rattle.ept_grammar.proofs.Among.{all_of}
use Rattle.ept_grammar.proofs.EachKind.{in_kinds}

-- ---- the kinds of tokens that may come after a part

-- after declarations, and after one of them
abbrev pub decls_ends : List Kind
decls_ends = CloseParen ∷ In_word ∷ Let ∷ []

abbrev pub decl_ends : List Kind
decl_ends = Semicolon ∷ decls_ends

-- after a block, after equations, and after one of them
abbrev pub block_ends : List Kind
block_ends = Bar ∷ End ∷ Every ∷ State_word ∷ Unless ∷ Until ∷ []

abbrev pub eqs_ends : List Kind
eqs_ends = Tel ∷ block_ends

abbrev pub eq_ends : List Kind
eq_ends = Semicolon ∷ eqs_ends

-- after a state of an automaton, and after its transitions
abbrev pub state_ends : List Kind
state_ends = End ∷ State_word ∷ []

abbrev pub escapes_ends : List Kind
escapes_ends = Unless ∷ state_ends

-- after an expression, and after what binds closer, level by level
abbrev pub expression_ends : List Kind
expression_ends = CloseParen ∷ Comma ∷ Continue ∷ Else ∷ Then ∷ eq_ends

abbrev pub fbys_ends : List Kind
fbys_ends = Arrow ∷ expression_ends

abbrev pub sampled_ends : List Kind
sampled_ends = Fby ∷ fbys_ends

abbrev pub ors_ends : List Kind
ors_ends = When ∷ Whenot ∷ sampled_ends

abbrev pub infix_ends : Level → List Kind
infix_ends level.Or = ors_ends
infix_ends level.And = Or ∷ ors_ends
infix_ends level.Comparison = Both ∷ Or ∷ ors_ends
infix_ends level.Sum = Equal ∷ Differ ∷ Less ∷ AtMost ∷ Greater ∷ AtLeast ∷ Both ∷ Or ∷ ors_ends
infix_ends level.Product = Plus ∷ Minus ∷ Equal ∷ Differ ∷ Less ∷ AtMost ∷ Greater ∷ AtLeast ∷ Both ∷ Or ∷ ors_ends

abbrev pub operand_ends : Level → List Kind
operand_ends level.Or = infix_ends level.And
operand_ends level.And = infix_ends level.Comparison
operand_ends level.Comparison = infix_ends level.Sum
operand_ends level.Sum = infix_ends level.Product
operand_ends level.Product = Times ∷ Divide ∷ Percent ∷ Mod ∷ infix_ends level.Product

abbrev pub atom_ends : List Kind
atom_ends = operand_ends level.Product

abbrev pub ends : Part → List Kind
ends Whole = []
ends Item = Node_word ∷ Type_word ∷ []
ends Type_dec = Node_word ∷ Type_word ∷ []
ends Constructor_list = Node_word ∷ Type_word ∷ []
ends Constructors = Node_word ∷ Type_word ∷ []
ends Node_dec = Node_word ∷ Type_word ∷ []
ends Interface = Let ∷ Var ∷ []
ends Input_list = Returns ∷ []
ends Output_list = Let ∷ Var ∷ []
ends Node_body = Node_word ∷ Type_word ∷ []
ends Inputs = CloseParen ∷ []
ends More_inputs = CloseParen ∷ []
ends Input = CloseParen ∷ Semicolon ∷ []
ends Typed_names = Equal ∷ CloseParen ∷ decl_ends
ends Names = CloseParen ∷ Colon ∷ []
ends More_names = CloseParen ∷ Colon ∷ []
ends Locals = Let ∷ []
ends Decls = decls_ends
ends More_decls = decls_ends
ends Last_decls = decls_ends
ends Declaration = decl_ends
ends Initial = decl_ends
ends Type_of = Equal ∷ decl_ends
ends Plain_type = Equal ∷ decl_ends
ends Constant = In_word ∷ Let ∷ atom_ends
ends Eqs = eqs_ends
ends More_eqs = eqs_ends
ends Eq = eq_ends
ends Several = eq_ends
ends Switching = eq_ends
ends Resetting = eq_ends
ends Branch_list = End ∷ []
ends Branches = End ∷ []
ends Branch_of = Bar ∷ End ∷ []
ends Tag_of = Arrow ∷ Do ∷ OpenParen ∷ []
ends Block_of = block_ends
ends Block_locals = Lower ∷ OpenParen ∷ Switch ∷ Reset ∷ Automaton ∷ block_ends
ends State_list = End ∷ []
ends States = End ∷ []
ends State_of = state_ends
ends Transitions = state_ends
ends Weak = escapes_ends
ends Strong = state_ends
ends Escapes = escapes_ends
ends Escape_list = escapes_ends
ends More_escapes = escapes_ends
ends Escape_of = Bar ∷ escapes_ends
ends Target = Bar ∷ escapes_ends
ends Expression = expression_ends
ends Choosing = expression_ends
ends Then_part = Else ∷ []
ends Else_part = expression_ends
ends Arrows = expression_ends
ends Arrow_tail = expression_ends
ends Fbys = fbys_ends
ends Fby_tail = fbys_ends
ends Sampled = sampled_ends
ends Samples = sampled_ends
ends Sample_of = ors_ends
ends Sampling = ors_ends
ends (Infix l) = infix_ends l
ends (Operand l) = operand_ends l
ends (Operands None) = infix_ends level.Comparison
ends (Operands (Some l)) = infix_ends l
ends Prefix = atom_ends
ends Signed = atom_ends
ends After_minus = atom_ends
ends Atom = atom_ends
ends Literal = atom_ends
ends Call_tail = atom_ends
ends Called = atom_ends
ends Merging = atom_ends
ends Merge_list = atom_ends
ends Merge_branches = atom_ends
ends Merge_branch = OpenParen ∷ atom_ends
ends Async_tail = atom_ends
ends Args = CloseParen ∷ []
ends More_args = CloseParen ∷ []

abbrev pub after : Part → Kind → Bool
after n k = list_any (λ j. is j k) (ends n)

-- what comes after each part of a right side may come after it
abbrev pub follows : Part → List Symbol → Kind → Bool
follows n [] k = true
follows n (word r j ∷ ss) k = follows n ss k
follows n (part m ∷ ss) k = implies (begins first ss k || (empties is_empty ss && after n k)) (after m k) && follows n ss k

-- one rule at most has the property
abbrev pub one : {A : Type 0} → (A → Bool) → List A → Bool
one p [] = true
one p (x ∷ xs) = implies (p x) (not (list_any p xs)) && one p xs

abbrev pub fine : Part → Kind → Bool
fine n k =
    (implies (list_any (λ r. begins first r.right k) (rules n)) (first n k)
    && one (λ r. begins first r.right k) (rules n))
    && (not (is_empty n && first n k && after n k)
    && list_all (λ r. follows n r.right k) (rules n))

abbrev pub fine_empty : Part → Bool
fine_empty n = implies (list_any (λ r. empties is_empty r.right) (rules n)) (is_empty n) && one (λ r. empties is_empty r.right) (rules n)

infix_fine : (l : Level) → list_all (fine (Infix l)) kinds ≡ true
unfolding first is_empty
infix_fine level.Or = refl
infix_fine _ = refl

operand_fine : (l : Level) → list_all (fine (Operand l)) kinds ≡ true
unfolding first is_empty
operand_fine level.Or = refl
operand_fine _ = refl

operands_fine : (l : Level) → list_all (fine (Operands (Some l))) kinds ≡ true
unfolding first is_empty
operands_fine level.Or = refl
operands_fine _ = refl

none_fine : list_all (fine (Operands None)) kinds ≡ true
unfolding first is_empty
none_fine = refl

all_fine : (n : Part) → list_all (fine n) kinds ≡ true
unfolding first is_empty
all_fine (Infix l) = infix_fine l
all_fine (Operand l) = operand_fine l
all_fine (Operands None) = none_fine
all_fine (Operands (Some l)) = operands_fine l
all_fine Whole = refl
all_fine _ = refl

pub is_fine : (n : Part) (k : Kind) → fine n k ≡ true
is_fine n k = all_of (fine n) (in_kinds k) (all_fine n)

infix_fine_empty : (l : Level) → fine_empty (Infix l) ≡ true
unfolding is_empty
infix_fine_empty level.Or = refl
infix_fine_empty _ = refl

operand_fine_empty : (l : Level) → fine_empty (Operand l) ≡ true
unfolding is_empty
operand_fine_empty level.Or = refl
operand_fine_empty _ = refl

operands_fine_empty : (l : Level) → fine_empty (Operands (Some l)) ≡ true
unfolding is_empty
operands_fine_empty level.Or = refl
operands_fine_empty _ = refl

none_fine_empty : fine_empty (Operands None) ≡ true
unfolding is_empty
none_fine_empty = refl

pub is_fine_empty : (n : Part) → fine_empty n ≡ true
unfolding is_empty
is_fine_empty (Infix l) = infix_fine_empty l
is_fine_empty (Operand l) = operand_fine_empty l
is_fine_empty (Operands None) = none_fine_empty
is_fine_empty (Operands (Some l)) = operands_fine_empty l
is_fine_empty Whole = refl
is_fine_empty _ = refl
