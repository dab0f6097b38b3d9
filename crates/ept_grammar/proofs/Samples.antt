-- Each part has a text.
use Rattle.std.specs.Prelude.{◌≡◌, pos, List, [], ◌∷◌, ◌++◌, Option, Some, None, refl}
use Rattle.std.proofs.Common.{ap, sym, subst}
use Rattle.ept_tokens.specs.declared.token.Kind.{Kind}
use Rattle.ept_tokens.specs.declared.token.Kind.TheVariants.{Arrow, Automaton, Bar, CloseParen, Colon, Do, Else, End, Equal, Every, Int, Let, Lower, Node as Node_word, Not, Number, OpenParen, Returns, State as State_word, Tel, Then, «Type» as Type_word, Upper, Whenot}
use Rattle.ept_tokens.specs.declared.token.Token.{Token}
use Rattle.ept_grammar.specs.declared.parts.Level.{Level}
use Rattle.ept_grammar.specs.declared.parts.Level.TheVariants as level
use Rattle.ept_grammar.specs.declared.parts.Role.{Role}
use Rattle.ept_grammar.specs.Grammar.{Among, here, there, Part, Whole, Item, Type_dec, Constructor_list, Constructors, Node_dec, Interface, Input_list, Output_list, Node_body, Inputs, More_inputs, Input, Typed_names, Names, More_names, Locals, Decls, More_decls, Last_decls, Declaration, Initial, Type_of, Plain_type, Constant, Eqs, More_eqs, Eq, Several, Switching, Resetting, Branch_list, Branches, Branch_of, Tag_of, Block_of, Block_locals, State_list, States, State_of, Transitions, Weak, Strong, Escapes, Escape_list, More_escapes, Escape_of, Target, Expression, Choosing, Then_part, Else_part, Arrows, Arrow_tail, Fbys, Fby_tail, Sampled, Samples, Sample_of, Sampling, Infix, Operand, Operands, Prefix, Signed, After_minus, Atom, Literal, Call_tail, Called, Merging, Merge_list, Merge_branches, Merge_branch, Async_tail, Args, More_args, Symbol, word, part, Values, Rule, rules, joined, place_of, Spells}

-- some text of the symbols
pub record Text (ss : List Symbol) : Type 0 where
  pub values : Values ss
  pub tokens : List Token
  pub roles : List Role
  pub spells : Spells ss values tokens roles

abbrev token_of : Kind → Token
token_of k = record { place = record { 0 = 0 }; kind = k; number = pos 0; name = [] }

abbrev split : (a b : List Symbol) (ws : Values (a ++ b)) → (us : Values a) × (vs : Values b) × (joined a b us vs ≡ ws)
split [] b ws = (tt, ws, refl)
split (word r k ∷ a) b ws = let s = split a b ws.1 in ((ws.0, s.0), s.1, ap (λ x. (ws.0, x)) s.2)
split (part n ∷ a) b ws = let s = split a b ws.1 in ((ws.0, s.0), s.1, ap (λ x. (ws.0, x)) s.2)

pub under : {n : Part} {ss : List Symbol} {ts : List Token} {rs : List Role} (r : Rule n) → Among r (rules n) → (ws : Values (r.right ++ ss)) → Spells (r.right ++ ss) ws ts rs → (vs : Values (part n ∷ ss)) × Spells (part n ∷ ss) vs ts rs
under {n = n} {ss = ss} {ts = ts} {rs = rs} r i ws d =
    let s = split r.right ss ws in
    ((r.gives (place_of ts) s.0, s.1), Spells.by r i s.0 (subst (λ v. Spells (r.right ++ ss) v ts rs) (sym s.2) d))

by_rule : {n : Part} {ss : List Symbol} (r : Rule n) → Among r (rules n) → Text (r.right ++ ss) → Text (part n ∷ ss)
by_rule r i t = let u = under r i t.values t.spells in record { values = u.0; tokens = t.tokens; roles = t.roles; spells = u.1 }

a_token : {ss : List Symbol} (r : Role) (k : Kind) → Text ss → Text (word r k ∷ ss)
a_token r k t = record { values = (token_of k, t.values); tokens = token_of k ∷ t.tokens; roles = r ∷ t.roles; spells = Spells.token refl t.spells }

sample_whole : {ss : List Symbol} → Text ss → Text (part Whole ∷ ss)
sample_whole t = by_rule _ here t

sample_constructors : {ss : List Symbol} → Text ss → Text (part Constructors ∷ ss)
sample_constructors t = by_rule _ here t

sample_inputs : {ss : List Symbol} → Text ss → Text (part Inputs ∷ ss)
sample_inputs t = by_rule _ here t

sample_more_inputs : {ss : List Symbol} → Text ss → Text (part More_inputs ∷ ss)
sample_more_inputs t = by_rule _ here t

sample_more_names : {ss : List Symbol} → Text ss → Text (part More_names ∷ ss)
sample_more_names t = by_rule _ here t

sample_locals : {ss : List Symbol} → Text ss → Text (part Locals ∷ ss)
sample_locals t = by_rule _ here t

sample_more_decls : {ss : List Symbol} → Text ss → Text (part More_decls ∷ ss)
sample_more_decls t = by_rule _ here t

sample_last_decls : {ss : List Symbol} → Text ss → Text (part Last_decls ∷ ss)
sample_last_decls t = by_rule _ here t

sample_eqs : {ss : List Symbol} → Text ss → Text (part Eqs ∷ ss)
sample_eqs t = by_rule _ here t

sample_more_eqs : {ss : List Symbol} → Text ss → Text (part More_eqs ∷ ss)
sample_more_eqs t = by_rule _ here t

sample_branches : {ss : List Symbol} → Text ss → Text (part Branches ∷ ss)
sample_branches t = by_rule _ here t

sample_block_locals : {ss : List Symbol} → Text ss → Text (part Block_locals ∷ ss)
sample_block_locals t = by_rule _ here t

sample_states : {ss : List Symbol} → Text ss → Text (part States ∷ ss)
sample_states t = by_rule _ here t

sample_weak : {ss : List Symbol} → Text ss → Text (part Weak ∷ ss)
sample_weak t = by_rule _ here t

sample_strong : {ss : List Symbol} → Text ss → Text (part Strong ∷ ss)
sample_strong t = by_rule _ here t

sample_more_escapes : {ss : List Symbol} → Text ss → Text (part More_escapes ∷ ss)
sample_more_escapes t = by_rule _ here t

sample_arrow_tail : {ss : List Symbol} → Text ss → Text (part Arrow_tail ∷ ss)
sample_arrow_tail t = by_rule _ here t

sample_fby_tail : {ss : List Symbol} → Text ss → Text (part Fby_tail ∷ ss)
sample_fby_tail t = by_rule _ here t

sample_samples : {ss : List Symbol} → Text ss → Text (part Samples ∷ ss)
sample_samples t = by_rule _ here t

sample_call_tail : {ss : List Symbol} → Text ss → Text (part Call_tail ∷ ss)
sample_call_tail t = by_rule _ here t

sample_merge_branches : {ss : List Symbol} → Text ss → Text (part Merge_branches ∷ ss)
sample_merge_branches t = by_rule _ here t

sample_args : {ss : List Symbol} → Text ss → Text (part Args ∷ ss)
sample_args t = by_rule _ here t

sample_more_args : {ss : List Symbol} → Text ss → Text (part More_args ∷ ss)
sample_more_args t = by_rule _ here t

sample_plain_type : {ss : List Symbol} → Text ss → Text (part Plain_type ∷ ss)
sample_plain_type t = by_rule _ here (a_token _ Int t)

sample_constant : {ss : List Symbol} → Text ss → Text (part Constant ∷ ss)
sample_constant t = by_rule _ here (a_token _ Number t)

sample_tag_of : {ss : List Symbol} → Text ss → Text (part Tag_of ∷ ss)
sample_tag_of t = by_rule _ here (a_token _ Upper t)

sample_sampling : {ss : List Symbol} → Text ss → Text (part Sampling ∷ ss)
sample_sampling t = by_rule _ (there here) (a_token _ Lower t)

sample_prefix : {ss : List Symbol} → Text ss → Text (part Prefix ∷ ss)
sample_prefix t = by_rule _ (there here) (a_token _ Number t)

sample_after_minus : {ss : List Symbol} → Text ss → Text (part After_minus ∷ ss)
sample_after_minus t = by_rule _ (there here) (a_token _ Number t)

sample_atom : {ss : List Symbol} → Text ss → Text (part Atom ∷ ss)
sample_atom t = by_rule _ here (by_rule _ here (a_token _ Upper t))

sample_literal : {ss : List Symbol} → Text ss → Text (part Literal ∷ ss)
sample_literal t = by_rule _ here (a_token _ Upper t)

sample_initial : {ss : List Symbol} → Text ss → Text (part Initial ∷ ss)
sample_initial t = by_rule _ here (sample_constant t)

sample_type_of : {ss : List Symbol} → Text ss → Text (part Type_of ∷ ss)
sample_type_of t = by_rule _ here (sample_plain_type t)

sample_block_of : {ss : List Symbol} → Text ss → Text (part Block_of ∷ ss)
sample_block_of t = by_rule _ here (sample_block_locals (sample_eqs t))

sample_target : {ss : List Symbol} → Text ss → Text (part Target ∷ ss)
sample_target t = by_rule _ here (a_token _ Then (a_token _ Upper t))

sample_async_tail : {ss : List Symbol} → Text ss → Text (part Async_tail ∷ ss)
sample_async_tail t = by_rule _ here (sample_constant t)

sample_signed : {ss : List Symbol} → Text ss → Text (part Signed ∷ ss)
sample_signed t = by_rule _ (there here) (a_token _ Not (sample_prefix t))

sample_type_dec : {ss : List Symbol} → Text ss → Text (part Type_dec ∷ ss)
sample_type_dec t = by_rule _ here (a_token _ Type_word (a_token _ Lower (a_token _ Equal (by_rule _ here (a_token _ Upper (sample_constructors t))))))

sample_constructor_list : {ss : List Symbol} → Text ss → Text (part Constructor_list ∷ ss)
sample_constructor_list t = by_rule _ here (a_token _ Upper (sample_constructors t))

sample_names : {ss : List Symbol} → Text ss → Text (part Names ∷ ss)
sample_names t = by_rule _ here (a_token _ Lower (sample_more_names t))

sample_typed_names : {ss : List Symbol} → Text ss → Text (part Typed_names ∷ ss)
sample_typed_names t = by_rule _ here (sample_names (a_token _ Colon (sample_type_of t)))

sample_input : {ss : List Symbol} → Text ss → Text (part Input ∷ ss)
sample_input t = by_rule _ here (sample_typed_names t)

sample_declaration : {ss : List Symbol} → Text ss → Text (part Declaration ∷ ss)
sample_declaration t = by_rule _ here (sample_typed_names t)

sample_branch_of : {ss : List Symbol} → Text ss → Text (part Branch_of ∷ ss)
sample_branch_of t = by_rule _ here (a_token _ Bar (sample_tag_of (a_token _ Do (sample_block_of t))))

sample_decls : {ss : List Symbol} → Text ss → Text (part Decls ∷ ss)
sample_decls t = by_rule _ here (sample_declaration (sample_more_decls t))

sample_transitions : {ss : List Symbol} → Text ss → Text (part Transitions ∷ ss)
sample_transitions t = by_rule _ here (sample_weak (sample_strong t))

sample_state_of : {ss : List Symbol} → Text ss → Text (part State_of ∷ ss)
sample_state_of t = by_rule _ here (a_token _ State_word (a_token _ Upper (a_token _ Do (sample_block_of (sample_transitions t)))))

sample_eq : {ss : List Symbol} → Text ss → Text (part Eq ∷ ss)
sample_eq t = by_rule _ (there (there (there (there here)))) (a_token _ Automaton (by_rule _ here (sample_state_of (sample_states (a_token _ End t)))))

sample_operands : (o : Option Level) {ss : List Symbol} → Text ss → Text (part (Operands o) ∷ ss)
sample_operands None t = by_rule _ here t
sample_operands (Some l) t = by_rule _ here t

sample_product : {ss : List Symbol} → Text ss → Text (part (Infix level.Product) ∷ ss)
sample_product t = by_rule _ here (by_rule _ here (sample_prefix (sample_operands _ t)))

sample_sum : {ss : List Symbol} → Text ss → Text (part (Infix level.Sum) ∷ ss)
sample_sum t = by_rule _ here (by_rule _ here (sample_product (sample_operands _ t)))

sample_comparison : {ss : List Symbol} → Text ss → Text (part (Infix level.Comparison) ∷ ss)
sample_comparison t = by_rule _ here (by_rule _ here (sample_sum (sample_operands _ t)))

sample_and : {ss : List Symbol} → Text ss → Text (part (Infix level.And) ∷ ss)
sample_and t = by_rule _ here (by_rule _ here (sample_comparison (sample_operands _ t)))

sample_infix : (l : Level) {ss : List Symbol} → Text ss → Text (part (Infix l) ∷ ss)
sample_infix level.Or t = by_rule _ here (by_rule _ here (sample_and (sample_operands _ t)))
sample_infix level.And t = sample_and t
sample_infix level.Comparison t = sample_comparison t
sample_infix level.Sum t = sample_sum t
sample_infix level.Product t = sample_product t

sample_operand : (l : Level) {ss : List Symbol} → Text ss → Text (part (Operand l) ∷ ss)
sample_operand level.Or t = by_rule _ here (sample_infix level.And t)
sample_operand level.And t = by_rule _ here (sample_infix level.Comparison t)
sample_operand level.Comparison t = by_rule _ here (sample_infix level.Sum t)
sample_operand level.Sum t = by_rule _ here (sample_infix level.Product t)
sample_operand level.Product t = by_rule _ here (sample_prefix t)

sample_sample_of : {ss : List Symbol} → Text ss → Text (part Sample_of ∷ ss)
sample_sample_of t = by_rule _ (there here) (a_token _ Whenot (a_token _ Lower t))

sample_sampled : {ss : List Symbol} → Text ss → Text (part Sampled ∷ ss)
sample_sampled t = by_rule _ here (sample_infix level.Or (sample_samples t))

sample_fbys : {ss : List Symbol} → Text ss → Text (part Fbys ∷ ss)
sample_fbys t = by_rule _ here (sample_sampled (sample_fby_tail t))

sample_arrows : {ss : List Symbol} → Text ss → Text (part Arrows ∷ ss)
sample_arrows t = by_rule _ here (sample_fbys (sample_arrow_tail t))

sample_expression : {ss : List Symbol} → Text ss → Text (part Expression ∷ ss)
sample_expression t = by_rule _ here (sample_arrows t)

sample_input_list : {ss : List Symbol} → Text ss → Text (part Input_list ∷ ss)
sample_input_list t = by_rule _ here (a_token _ OpenParen (sample_inputs (a_token _ CloseParen t)))

sample_output_list : {ss : List Symbol} → Text ss → Text (part Output_list ∷ ss)
sample_output_list t = by_rule _ here (a_token _ OpenParen (sample_decls (a_token _ CloseParen t)))

sample_interface : {ss : List Symbol} → Text ss → Text (part Interface ∷ ss)
sample_interface t = by_rule _ here (sample_input_list (a_token _ Returns (sample_output_list t)))

sample_node_body : {ss : List Symbol} → Text ss → Text (part Node_body ∷ ss)
sample_node_body t = by_rule _ here (sample_locals (a_token _ Let (sample_eqs (a_token _ Tel t))))

sample_node_dec : {ss : List Symbol} → Text ss → Text (part Node_dec ∷ ss)
sample_node_dec t = by_rule _ here (a_token _ Node_word (a_token _ Lower (sample_interface (sample_node_body t))))

sample_item : {ss : List Symbol} → Text ss → Text (part Item ∷ ss)
sample_item t = by_rule _ here (sample_node_dec t)

sample_several : {ss : List Symbol} → Text ss → Text (part Several ∷ ss)
sample_several t = by_rule _ here (sample_names (a_token _ CloseParen (a_token _ Equal (sample_expression t))))

sample_escape_of : {ss : List Symbol} → Text ss → Text (part Escape_of ∷ ss)
sample_escape_of t = by_rule _ here (sample_expression (sample_target t))

sample_escape_list : {ss : List Symbol} → Text ss → Text (part Escape_list ∷ ss)
sample_escape_list t = by_rule _ here (sample_escape_of (sample_more_escapes t))

sample_escapes : {ss : List Symbol} → Text ss → Text (part Escapes ∷ ss)
sample_escapes t = by_rule _ here (sample_escape_list t)

sample_merge_branch : {ss : List Symbol} → Text ss → Text (part Merge_branch ∷ ss)
sample_merge_branch t = by_rule _ here (a_token _ OpenParen (sample_tag_of (a_token _ Arrow (sample_expression (a_token _ CloseParen t)))))

sample_branch_list : {ss : List Symbol} → Text ss → Text (part Branch_list ∷ ss)
sample_branch_list t = by_rule _ here (sample_branch_of (sample_branches t))

sample_state_list : {ss : List Symbol} → Text ss → Text (part State_list ∷ ss)
sample_state_list t = by_rule _ here (sample_state_of (sample_states t))

sample_switching : {ss : List Symbol} → Text ss → Text (part Switching ∷ ss)
sample_switching t = by_rule _ here (sample_expression (sample_branch_list (a_token _ End t)))

sample_resetting : {ss : List Symbol} → Text ss → Text (part Resetting ∷ ss)
sample_resetting t = by_rule _ here (sample_block_of (a_token _ Every (sample_expression t)))

sample_called : {ss : List Symbol} → Text ss → Text (part Called ∷ ss)
sample_called t = by_rule _ here (a_token _ OpenParen (sample_args (a_token _ CloseParen t)))

sample_merge_list : {ss : List Symbol} → Text ss → Text (part Merge_list ∷ ss)
sample_merge_list t = by_rule _ here (sample_merge_branch (sample_merge_branches t))

sample_then_part : {ss : List Symbol} → Text ss → Text (part Then_part ∷ ss)
sample_then_part t = by_rule _ here (a_token _ Then (sample_expression t))

sample_else_part : {ss : List Symbol} → Text ss → Text (part Else_part ∷ ss)
sample_else_part t = by_rule _ here (a_token _ Else (sample_expression t))

sample_choosing : {ss : List Symbol} → Text ss → Text (part Choosing ∷ ss)
sample_choosing t = by_rule _ here (sample_expression (sample_then_part (sample_else_part t)))

sample_merging : {ss : List Symbol} → Text ss → Text (part Merging ∷ ss)
sample_merging t = by_rule _ here (a_token _ Lower (sample_merge_list t))

sample : (n : Part) {ss : List Symbol} → Text ss → Text (part n ∷ ss)
sample Whole t = sample_whole t
sample Item t = sample_item t
sample Type_dec t = sample_type_dec t
sample Constructor_list t = sample_constructor_list t
sample Constructors t = sample_constructors t
sample Node_dec t = sample_node_dec t
sample Interface t = sample_interface t
sample Input_list t = sample_input_list t
sample Output_list t = sample_output_list t
sample Node_body t = sample_node_body t
sample Inputs t = sample_inputs t
sample More_inputs t = sample_more_inputs t
sample Input t = sample_input t
sample Typed_names t = sample_typed_names t
sample Names t = sample_names t
sample More_names t = sample_more_names t
sample Locals t = sample_locals t
sample Decls t = sample_decls t
sample More_decls t = sample_more_decls t
sample Last_decls t = sample_last_decls t
sample Declaration t = sample_declaration t
sample Initial t = sample_initial t
sample Type_of t = sample_type_of t
sample Plain_type t = sample_plain_type t
sample Constant t = sample_constant t
sample Eqs t = sample_eqs t
sample More_eqs t = sample_more_eqs t
sample Eq t = sample_eq t
sample Several t = sample_several t
sample Switching t = sample_switching t
sample Resetting t = sample_resetting t
sample Branch_list t = sample_branch_list t
sample Branches t = sample_branches t
sample Branch_of t = sample_branch_of t
sample Tag_of t = sample_tag_of t
sample Block_of t = sample_block_of t
sample Block_locals t = sample_block_locals t
sample State_list t = sample_state_list t
sample States t = sample_states t
sample State_of t = sample_state_of t
sample Transitions t = sample_transitions t
sample Weak t = sample_weak t
sample Strong t = sample_strong t
sample Escapes t = sample_escapes t
sample Escape_list t = sample_escape_list t
sample More_escapes t = sample_more_escapes t
sample Escape_of t = sample_escape_of t
sample Target t = sample_target t
sample Expression t = sample_expression t
sample Choosing t = sample_choosing t
sample Then_part t = sample_then_part t
sample Else_part t = sample_else_part t
sample Arrows t = sample_arrows t
sample Arrow_tail t = sample_arrow_tail t
sample Fbys t = sample_fbys t
sample Fby_tail t = sample_fby_tail t
sample Sampled t = sample_sampled t
sample Samples t = sample_samples t
sample Sample_of t = sample_sample_of t
sample Sampling t = sample_sampling t
sample (Infix l) t = sample_infix l t
sample (Operand l) t = sample_operand l t
sample (Operands o) t = sample_operands o t
sample Prefix t = sample_prefix t
sample Signed t = sample_signed t
sample After_minus t = sample_after_minus t
sample Atom t = sample_atom t
sample Literal t = sample_literal t
sample Call_tail t = sample_call_tail t
sample Called t = sample_called t
sample Merging t = sample_merging t
sample Merge_list t = sample_merge_list t
sample Merge_branches t = sample_merge_branches t
sample Merge_branch t = sample_merge_branch t
sample Async_tail t = sample_async_tail t
sample Args t = sample_args t
sample More_args t = sample_more_args t

pub text_of : (ss : List Symbol) → Text ss
text_of [] = record { values = tt; tokens = []; roles = []; spells = Spells.none }
text_of (word r k ∷ ss) = a_token r k (text_of ss)
text_of (part n ∷ ss) = sample n (text_of ss)
