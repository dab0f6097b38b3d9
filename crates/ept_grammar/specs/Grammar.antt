-- The grammar: each part of a text, what it is made of, and what tree it stands for.
use Rattle.std.specs.Prelude.{◌≡◌, ℕ, ℤ, ◌+◌, ◌-◌, Bool, true, false, ◌&&◌, if◌then◌else◌, List, [], ◌∷◌, ◌++◌, map, Option, Some, None, nat_lt, ◌⊎◌}
use Rattle.std.proofs.Common.{inl, inr}
use Rattle.std.specs.List.{list_any}
use Rattle.std.specs.Int.{w32, cast_unsigned, int_wrapping_neg}
use Rattle.hept_ast.specs.declared.name.Place.{Place}
use Rattle.hept_ast.specs.declared.tree.Program.{Program}
use Rattle.hept_ast.specs.declared.tree.TypeDec.{TypeDec}
use Rattle.hept_ast.specs.declared.tree.Node.{Node}
use Rattle.hept_ast.specs.declared.tree.Decl.{Decl}
use Rattle.hept_ast.specs.declared.tree.Init.{Init}
use Rattle.hept_ast.specs.declared.tree.Block.{Block}
use Rattle.hept_ast.specs.declared.tree.Branch.{Branch}
use Rattle.hept_ast.specs.declared.tree.State.{State}
use Rattle.hept_ast.specs.declared.tree.Escape.{Escape}
use Rattle.hept_ast.specs.declared.tree.MergeBranch.{MergeBranch}
use Rattle.hept_ast.specs.declared.tree.Expr.{Expr}
use Rattle.hept_ast.specs.declared.tree.Form.{Form}
use Rattle.hept_ast.specs.declared.tree.Equation.{Equation}
use Rattle.hept_ast.specs.declared.tree.Ty.{Ty}
use Rattle.hept_ast.specs.declared.tree.Plain.{Plain}
use Rattle.hept_ast.specs.declared.tree.Const.{Const}
use Rattle.hept_ast.specs.declared.tree.Tag.{Tag}
use Rattle.hept_ast.specs.declared.tree.BinaryOp.{BinaryOp}
use Rattle.hept_ast.specs.declared.tree.Form.TheVariants as form
use Rattle.hept_ast.specs.declared.tree.Const.TheVariants as const
use Rattle.hept_ast.specs.declared.tree.Tag.TheVariants as tag
use Rattle.hept_ast.specs.declared.tree.Ty.TheVariants as ty
use Rattle.hept_ast.specs.declared.tree.Plain.TheVariants as plain
use Rattle.hept_ast.specs.declared.tree.BinaryOp.TheVariants as binary
use Rattle.hept_ast.specs.declared.tree.UnaryOp.TheVariants as unary
use Rattle.hept_ast.specs.declared.tree.Equation as equation
use Rattle.ept_tokens.specs.declared.token.Kind.{Kind}
use Rattle.ept_tokens.specs.declared.token.Kind.TheVariants.{Arrow, Async, AtLeast, AtMost, Automaton, Bang, Bar, Bool as Bool_word, Both, CloseAngle, CloseParen, Colon, Comma, Continue, Differ, Divide, Do, Else, End, Equal, Every, False, Fby, Future, Greater, If, In as In_word, Int, Last, Less, Let, Lower, Merge, Minus, Mod, Node as Node_word, Not, Number, OpenAngle, OpenParen, Or, Percent, Plus, Pre, Reset, Returns, Semicolon, State as State_word, Switch, Tel, Then, Times, True, «Type» as Type_word, Unless, Until, Upper, Var, When, Whenot}
use Rattle.ept_tokens.specs.declared.token.Token.{Token}
use Rattle.ept_grammar.specs.declared.parts.Sample.{Sample}
use Rattle.ept_tokens.specs.Kinds.{is}
use Rattle.ept_grammar.specs.declared.parts.Level.{Level}
use Rattle.ept_grammar.specs.declared.parts.Level.TheVariants as level
use Rattle.ept_grammar.specs.declared.parts.Role.{Role}
use Rattle.ept_grammar.specs.declared.parts.Role.TheVariants.{Plain as Other, Operator, Fresh, Opens, OpensFresh, Closes, ClosesFresh}
use Rattle.ept_grammar.specs.declared.parts.Counts.{Counts}

-- ---- symbols

-- the parts of a text
pub data Part : Type 0 where
  -- programs and nodes
  Whole Item Type_dec Constructor_list Constructors Node_dec Interface Input_list Output_list Node_body Inputs More_inputs Input Typed_names Names More_names Locals Decls More_decls Last_decls Declaration Initial : Part
  -- types and constants
  Type_of Plain_type Constant : Part
  -- equations and blocks
  Eqs More_eqs Eq Several Switching Resetting Branch_list Branches Branch_of Tag_of Block_of Block_locals : Part
  -- automata
  State_list States State_of Transitions Weak Strong Escapes Escape_list More_escapes Escape_of Target : Part
  -- expressions, from the loosest to the closest
  Expression Choosing Then_part Else_part Arrows Arrow_tail Fbys Fby_tail Sampled Samples Sample_of Sampling Prefix Signed After_minus : Part
  -- operands with infix signs of a level, one operand, and the signs with further operands, of a level or of none
  Infix Operand : Level → Part
  Operands : Option Level → Part
  -- atoms
  Atom Literal Call_tail Called Merging Merge_list Merge_branches Merge_branch Async_tail Args More_args : Part

-- a token of a kind, with its role, or a part
pub data Symbol : Type 0 where
  word : Role → Kind → Symbol
  part : Part → Symbol

abbrev pub Name : Type 0
Name = List ℕ

-- an infix sign and its right operand
abbrev pub Signed_operand : Type 0
Signed_operand = Token × Expr

-- what the text of a part stands for
abbrev pub Value : Part → Type 0
Value Whole = Program
Value Item = Program
Value Type_dec = TypeDec
Value Constructor_list = List Name
Value Constructors = List Name
Value Node_dec = Node
Value Interface = List Decl × List Decl
Value Input_list = List Decl
Value Output_list = List Decl
Value Node_body = Block
Value Inputs = List Decl
Value More_inputs = List Decl
Value Input = List Decl
Value Typed_names = List Token × Ty
Value Names = List Token
Value More_names = List Token
Value Locals = List Decl
Value Decls = List Decl
Value More_decls = List Decl
Value Last_decls = List Decl
Value Declaration = List Decl
Value Initial = Init
Value Type_of = Ty
Value Plain_type = Plain
Value Constant = Const
Value Eqs = List Equation
Value More_eqs = List Equation
Value Eq = Equation
Value Several = List Name × Expr
Value Switching = Expr × List Branch
Value Resetting = Block × Expr
Value Branch_list = List Branch
Value Branches = List Branch
Value Branch_of = Branch
Value Tag_of = Tag
Value Block_of = Block
Value Block_locals = List Decl
Value State_list = List State
Value States = List State
Value State_of = State
Value Transitions = List Escape × List Escape
Value Weak = List Escape
Value Strong = List Escape
Value Escapes = List Escape
Value Escape_list = List Escape
Value More_escapes = List Escape
Value Escape_of = Escape
Value Target = Bool × Name
Value Expression = Expr
Value Choosing = Form
Value Then_part = Expr
Value Else_part = Expr
Value Arrows = Expr
Value Arrow_tail = Option Signed_operand
Value Fbys = Expr
Value Fby_tail = Option Signed_operand
Value Sampled = Expr
Value Samples = List Sample
Value Sample_of = Sample
Value Sampling = Tag × Name
Value (Infix l) = Expr
Value (Operand l) = Expr
Value (Operands o) = List Signed_operand
Value Prefix = Expr
Value Signed = Expr
Value After_minus = ℤ ⊎ Expr
Value Atom = Expr
Value Literal = Expr
Value Call_tail = Option (List Expr)
Value Called = List Expr
Value Merging = Form
Value Merge_list = List MergeBranch
Value Merge_branches = List MergeBranch
Value Merge_branch = MergeBranch
Value Async_tail = Form
Value Args = List Expr
Value More_args = List Expr

abbrev pub Values : List Symbol → Type 0
Values [] = Unit {0}
Values (word r k ∷ ss) = Token × Values ss
Values (part n ∷ ss) = Value n × Values ss

-- what a part is made of, and what that gives, by the place of its first token
pub record Rule (n : Part) : Type 0 where
  pub right : List Symbol
  pub gives : Place → Values right → Value n

-- ---- trees

abbrev pub at : Place → Form → Expr
at p f = record { place = p; form = f }

-- ---- levels of infix signs

abbrev pub signs : Level → List Kind
signs level.Or = Or ∷ []
signs level.And = Both ∷ []
signs level.Comparison = Equal ∷ Differ ∷ Less ∷ AtMost ∷ Greater ∷ AtLeast ∷ []
signs level.Sum = Plus ∷ Minus ∷ []
signs level.Product = Times ∷ Divide ∷ Percent ∷ Mod ∷ []

abbrev pub one_of : List Kind → Kind → Bool
one_of js k = list_any (λ j. is j k) js

-- the level of the signs that may come after a sign of a level: a comparison has one sign at most
abbrev pub again : Level → Option Level
again level.Or = Some level.Or
again level.And = Some level.And
again level.Comparison = None
again level.Sum = Some level.Sum
again level.Product = Some level.Product

abbrev pub sign : Kind → BinaryOp
sign Plus = binary.Add
sign Minus = binary.Sub
sign Times = binary.Mul
sign Divide = binary.Div
sign Percent = binary.Rem
sign Mod = binary.Rem
sign Or = binary.Or
sign Both = binary.And
sign Equal = binary.Eq
sign Differ = binary.Ne
sign Less = binary.Lt
sign AtMost = binary.Le
sign Greater = binary.Gt
sign _ = binary.Ge

-- what a sign of a level stands for
abbrev pub sign_at : Level → Kind → Option BinaryOp
sign_at l k = if one_of (signs l) k then Some (sign k) else None

-- repetitions group to the left
abbrev pub grouped : Expr → List Signed_operand → Expr
grouped e [] = e
grouped e (o ∷ os) = grouped (at o.0.place (form.Binary (sign o.0.kind) e o.1)) os

abbrev pub sampled : Expr → List Sample → Expr
sampled e [] = e
sampled e (s ∷ ss) = sampled (at s.place (form.When e s.tag s.name)) ss

abbrev pub between : (Expr → Expr → Form) → Expr → Option Signed_operand → Expr
between f e None = e
between f e (Some o) = at o.0.place (f e o.1)

abbrev pub named : Name → Option (List Expr) → Form
named x None = form.Var x
named x (Some es) = form.Call x es

-- a number of 32 bits with a minus before it
abbrev pub negative : ℤ → ℤ
negative z = int_wrapping_neg w32 z

-- a prefix minus directly before a number is a negative constant
abbrev pub negated : Place → ℤ ⊎ Expr → Expr
negated p (inl z) = at p (form.Const (const.Number (negative z)))
negated p (inr e) = at p (form.Unary unary.Minus e)

abbrev pub names_of : List Token → List Name
names_of ts = map (λ t. t.name) ts

-- a declaration of several names is several declarations
abbrev pub declared : List Token → Ty → Option Init → List Decl
declared ts t i = map (λ x. record { place = x.place; name = x.name; ty = t; init = i }) ts

-- what two programs declare, one after the other
abbrev pub beside : Program → Program → Program
beside p q = record { types = p.types ++ q.types; nodes = p.nodes ++ q.nodes }

abbrev pub size : ℤ → ℕ
size z = cast_unsigned w32 z

-- ---- the grammar, one case for each production

-- a sign of a level and what comes after it
abbrev pub infix_rule : (l : Level) → Kind → Rule (Operands (Some l))
infix_rule l k = record {
  right = word Operator k ∷ part (Operand l) ∷ part (Operands (again l)) ∷ [];
  gives = λ _ (sign, (e, (more, _))). (sign, e) ∷ more;
}

abbrev pub rules : (n : Part) → List (Rule n)
rules Whole =
    record { right = []; gives = λ _ _. record { types = []; nodes = [] } }
    ∷ record { right = part Item ∷ part Whole ∷ []; gives = λ _ (item, (whole, _)). beside item whole }
    ∷ []
rules Item =
    record { right = part Node_dec ∷ []; gives = λ _ (node, _). record { types = []; nodes = node ∷ [] } }
    ∷ record { right = part Type_dec ∷ []; gives = λ _ (dec, _). record { types = dec ∷ []; nodes = [] } }
    ∷ []
rules Type_dec =
    record {
      right = word Other Type_word ∷ word Other Lower ∷ word Other Equal ∷ part Constructor_list ∷ [];
      gives = λ p (_, (name, (_, (constructors, _)))). record { place = p; name = name.name; constructors = constructors };
    } ∷ []
rules Constructor_list =
    record {
      right = word Other Upper ∷ part Constructors ∷ [];
      gives = λ _ (name, (constructors, _)). name.name ∷ constructors;
    } ∷ []
rules Constructors =
    record { right = []; gives = λ _ _. [] }
    ∷ record {
      right = word Other Bar ∷ word Other Upper ∷ part Constructors ∷ [];
      gives = λ _ (_, (name, (constructors, _))). name.name ∷ constructors;
    }
    ∷ []
rules Node_dec =
    record {
      right = word Other Node_word ∷ word Other Lower ∷ part Interface ∷ part Node_body ∷ [];
      gives = λ p (_, (name, (interface, (body, _)))). record { place = p; name = name.name; inputs = interface.0; outputs = interface.1; block = body };
    } ∷ []
rules Interface =
    record {
      right = part Input_list ∷ word Other Returns ∷ part Output_list ∷ [];
      gives = λ _ (inputs, (_, (outputs, _))). (inputs, outputs);
    } ∷ []
rules Input_list =
    record {
      right = word Other OpenParen ∷ part Inputs ∷ word Other CloseParen ∷ [];
      gives = λ _ (_, (inputs, (_, _))). inputs;
    } ∷ []
rules Output_list =
    record {
      right = word Other OpenParen ∷ part Decls ∷ word Other CloseParen ∷ [];
      gives = λ _ (_, (outputs, (_, _))). outputs;
    } ∷ []
rules Node_body =
    record {
      right = part Locals ∷ word Other Let ∷ part Eqs ∷ word Other Tel ∷ [];
      gives = λ _ (locals, (_, (eqs, (_, _)))). record { locals = locals; body = eqs };
    } ∷ []
rules Inputs =
    record { right = []; gives = λ _ _. [] }
    ∷ record { right = part Input ∷ part More_inputs ∷ []; gives = λ _ (input, (more, _)). input ++ more }
    ∷ []
rules More_inputs =
    record { right = []; gives = λ _ _. [] }
    ∷ record { right = word Other Semicolon ∷ part Inputs ∷ []; gives = λ _ (_, (inputs, _)). inputs }
    ∷ []
rules Input =
    record { right = part Typed_names ∷ []; gives = λ _ (typed, _). declared typed.0 typed.1 None } ∷ []
rules Typed_names =
    record {
      right = part Names ∷ word Other Colon ∷ part Type_of ∷ [];
      gives = λ _ (names, (_, (ty, _))). (names, ty);
    } ∷ []
rules Names =
    record { right = word Other Lower ∷ part More_names ∷ []; gives = λ _ (name, (names, _)). name ∷ names } ∷ []
rules More_names =
    record { right = []; gives = λ _ _. [] }
    ∷ record {
      right = word Other Comma ∷ word Other Lower ∷ part More_names ∷ [];
      gives = λ _ (_, (name, (names, _))). name ∷ names;
    }
    ∷ []
rules Locals =
    record { right = []; gives = λ _ _. [] }
    ∷ record { right = word Other Var ∷ part Decls ∷ []; gives = λ _ (_, (decls, _)). decls }
    ∷ []
rules Decls =
    record { right = part Declaration ∷ part More_decls ∷ []; gives = λ _ (ds, (more, _)). ds ++ more } ∷ []
rules More_decls =
    record { right = []; gives = λ _ _. [] }
    ∷ record { right = word Other Semicolon ∷ part Last_decls ∷ []; gives = λ _ (_, (decls, _)). decls }
    ∷ []
rules Last_decls =
    record { right = []; gives = λ _ _. [] }
    ∷ record { right = part Declaration ∷ part More_decls ∷ []; gives = λ _ (ds, (more, _)). ds ++ more }
    ∷ []
rules Declaration =
    record { right = part Typed_names ∷ []; gives = λ _ (typed, _). declared typed.0 typed.1 None }
    ∷ record {
      right = word Other Last ∷ part Typed_names ∷ word Fresh Equal ∷ part Initial ∷ [];
      gives = λ _ (_, (typed, (_, (i, _)))). declared typed.0 typed.1 (Some i);
    }
    ∷ []
rules Initial =
    record { right = part Constant ∷ []; gives = λ _ (k, _). record { ready = false; value = k } }
    ∷ record {
      right = word Other Async ∷ part Constant ∷ [];
      gives = λ _ (_, (k, _)). record { ready = true; value = k };
    }
    ∷ []
rules Type_of =
    record { right = part Plain_type ∷ []; gives = λ _ (t, _). ty.Plain t }
    ∷ record { right = word Other Future ∷ part Plain_type ∷ []; gives = λ _ (_, (t, _)). ty.Future t }
    ∷ []
rules Plain_type =
    record { right = word Other Int ∷ []; gives = λ _ _. plain.Int }
    ∷ record { right = word Other Bool_word ∷ []; gives = λ _ _. plain.Bool }
    ∷ record { right = word Other Lower ∷ []; gives = λ _ (name, _). plain.Named name.name }
    ∷ []
rules Constant =
    record { right = word Other Number ∷ []; gives = λ _ (number, _). const.Number number.number }
    ∷ record {
      right = word Operator Minus ∷ word Other Number ∷ [];
      gives = λ _ (_, (number, _)). const.Number (negative number.number);
    }
    ∷ record { right = word Other True ∷ []; gives = λ _ _. const.Truth true }
    ∷ record { right = word Other False ∷ []; gives = λ _ _. const.Truth false }
    ∷ record { right = word Other Upper ∷ []; gives = λ _ (name, _). const.Constructor name.name }
    ∷ []
rules Eqs =
    record { right = []; gives = λ _ _. [] }
    ∷ record { right = part Eq ∷ part More_eqs ∷ []; gives = λ _ (eq, (more, _)). eq ∷ more }
    ∷ []
rules More_eqs =
    record { right = []; gives = λ _ _. [] }
    ∷ record { right = word Other Semicolon ∷ part Eqs ∷ []; gives = λ _ (_, (eqs, _)). eqs }
    ∷ []
rules Eq =
    record {
      right = word Other Lower ∷ word Fresh Equal ∷ part Expression ∷ [];
      gives = λ p (name, (_, (e, _))). equation.Define p (name.name ∷ []) e;
    }
    ∷ record {
      right = word Other OpenParen ∷ part Several ∷ [];
      gives = λ p (_, (several, _)). equation.Define p several.0 several.1;
    }
    ∷ record {
      right = word OpensFresh Switch ∷ part Switching ∷ [];
      gives = λ p (_, (switching, _)). equation.Switch p switching.0 switching.1;
    }
    ∷ record {
      right = word Opens Reset ∷ part Resetting ∷ [];
      gives = λ p (_, (resetting, _)). equation.Reset p resetting.0 resetting.1;
    }
    ∷ record {
      right = word Opens Automaton ∷ part State_list ∷ word Closes End ∷ [];
      gives = λ p (_, (states, (_, _))). equation.Automaton p states;
    }
    ∷ []
rules Several =
    record {
      right = part Names ∷ word Other CloseParen ∷ word Fresh Equal ∷ part Expression ∷ [];
      gives = λ _ (names, (_, (_, (e, _)))). (names_of names, e);
    } ∷ []
rules Switching =
    record {
      right = part Expression ∷ part Branch_list ∷ word Closes End ∷ [];
      gives = λ _ (e, (branches, (_, _))). (e, branches);
    } ∷ []
rules Resetting =
    record {
      right = part Block_of ∷ word ClosesFresh Every ∷ part Expression ∷ [];
      gives = λ _ (block, (_, (e, _))). (block, e);
    } ∷ []
rules Branch_list =
    record { right = part Branch_of ∷ part Branches ∷ []; gives = λ _ (branch, (branches, _)). branch ∷ branches } ∷ []
rules Branches =
    record { right = []; gives = λ _ _. [] }
    ∷ record { right = part Branch_of ∷ part Branches ∷ []; gives = λ _ (branch, (branches, _)). branch ∷ branches }
    ∷ []
rules Branch_of =
    record {
      right = word Other Bar ∷ part Tag_of ∷ word Other Do ∷ part Block_of ∷ [];
      gives = λ p (_, (tag, (_, (block, _)))). record { place = p; tag = tag; block = block };
    } ∷ []
rules Tag_of =
    record { right = word Other Upper ∷ []; gives = λ _ (name, _). tag.Constructor name.name }
    ∷ record { right = word Other True ∷ []; gives = λ _ _. tag.Truth true }
    ∷ record { right = word Other False ∷ []; gives = λ _ _. tag.Truth false }
    ∷ []
rules Block_of =
    record {
      right = part Block_locals ∷ part Eqs ∷ [];
      gives = λ _ (locals, (eqs, _)). record { locals = locals; body = eqs };
    } ∷ []
rules Block_locals =
    record { right = []; gives = λ _ _. [] }
    ∷ record {
      right = word Other Var ∷ part Decls ∷ word Other In_word ∷ [];
      gives = λ _ (_, (decls, (_, _))). decls;
    }
    ∷ []
rules State_list =
    record { right = part State_of ∷ part States ∷ []; gives = λ _ (state, (states, _)). state ∷ states } ∷ []
rules States =
    record { right = []; gives = λ _ _. [] }
    ∷ record { right = part State_of ∷ part States ∷ []; gives = λ _ (state, (states, _)). state ∷ states }
    ∷ []
rules State_of =
    record {
      right = word Other State_word ∷ word Other Upper ∷ word Other Do ∷ part Block_of ∷ part Transitions ∷ [];
      gives = λ p (_, (name, (_, (block, (transitions, _))))). record { place = p; name = name.name; block = block; weak = transitions.0; strong = transitions.1 };
    } ∷ []
rules Transitions =
    record { right = part Weak ∷ part Strong ∷ []; gives = λ _ (weak, (strong, _)). (weak, strong) } ∷ []
rules Weak =
    record { right = []; gives = λ _ _. [] }
    ∷ record { right = word Fresh Until ∷ part Escapes ∷ []; gives = λ _ (_, (escapes, _)). escapes }
    ∷ []
rules Strong =
    record { right = []; gives = λ _ _. [] }
    ∷ record { right = word Fresh Unless ∷ part Escapes ∷ []; gives = λ _ (_, (escapes, _)). escapes }
    ∷ []
rules Escapes =
    record { right = part Escape_list ∷ []; gives = λ _ (escapes, _). escapes }
    ∷ record { right = word Fresh Bar ∷ part Escape_list ∷ []; gives = λ _ (_, (escapes, _)). escapes }
    ∷ []
rules Escape_list =
    record { right = part Escape_of ∷ part More_escapes ∷ []; gives = λ _ (escape, (more, _)). escape ∷ more } ∷ []
rules More_escapes =
    record { right = []; gives = λ _ _. [] }
    ∷ record {
      right = word Fresh Bar ∷ part Escape_of ∷ part More_escapes ∷ [];
      gives = λ _ (_, (escape, (more, _))). escape ∷ more;
    }
    ∷ []
rules Escape_of =
    record {
      right = part Expression ∷ part Target ∷ [];
      gives = λ p (e, (target, _)). record { place = p; condition = e; target = target.1; restart = target.0 };
    } ∷ []
rules Target =
    record { right = word Other Then ∷ word Other Upper ∷ []; gives = λ _ (_, (name, _)). (true, name.name) }
    ∷ record { right = word Other Continue ∷ word Other Upper ∷ []; gives = λ _ (_, (name, _)). (false, name.name) }
    ∷ []
rules Expression =
    record { right = part Arrows ∷ []; gives = λ _ (e, _). e }
    ∷ record {
      right = word Operator If ∷ part Choosing ∷ [];
      gives = λ p (_, (form, _)). at p form;
    }
    ∷ []
rules Choosing =
    record {
      right = part Expression ∷ part Then_part ∷ part Else_part ∷ [];
      gives = λ _ (c, (a, (b, _))). form.If c a b;
    } ∷ []
rules Then_part =
    record { right = word Other Then ∷ part Expression ∷ []; gives = λ _ (_, (e, _)). e } ∷ []
rules Else_part =
    record { right = word Other Else ∷ part Expression ∷ []; gives = λ _ (_, (e, _)). e } ∷ []
rules Arrows =
    record {
      right = part Fbys ∷ part Arrow_tail ∷ [];
      gives = λ _ (e, (tail, _)). between (λ e f. form.Arrow e f) e tail;
    } ∷ []
rules Arrow_tail =
    record { right = []; gives = λ _ _. None }
    ∷ record { right = word Operator Arrow ∷ part Expression ∷ []; gives = λ _ (sign, (e, _)). Some (sign, e) }
    ∷ []
rules Fbys =
    record {
      right = part Sampled ∷ part Fby_tail ∷ [];
      gives = λ _ (sampled, (tail, _)). between (λ e f. form.Fby e f) sampled tail;
    } ∷ []
rules Fby_tail =
    record { right = []; gives = λ _ _. None }
    ∷ record { right = word Operator Fby ∷ part Fbys ∷ []; gives = λ _ (sign, (e, _)). Some (sign, e) }
    ∷ []
rules Sampled =
    record { right = part (Infix level.Or) ∷ part Samples ∷ []; gives = λ _ (e, (more, _)). sampled e more } ∷ []
rules Samples =
    record { right = []; gives = λ _ _. [] }
    ∷ record { right = part Sample_of ∷ part Samples ∷ []; gives = λ _ (sample, (more, _)). sample ∷ more }
    ∷ []
rules Sample_of =
    record {
      right = word Operator When ∷ part Sampling ∷ [];
      gives = λ p (_, (sampling, _)). record { place = p; tag = sampling.0; name = sampling.1 };
    }
    ∷ record {
      right = word Operator Whenot ∷ word Other Lower ∷ [];
      gives = λ p (_, (name, _)). record { place = p; tag = tag.Truth false; name = name.name };
    }
    ∷ []
rules Sampling =
    record {
      right = part Tag_of ∷ word Operator OpenParen ∷ word Other Lower ∷ word Other CloseParen ∷ [];
      gives = λ _ (tag, (_, (name, (_, _)))). (tag, name.name);
    }
    ∷ record { right = word Other Lower ∷ []; gives = λ _ (name, _). (tag.Truth true, name.name) }
    ∷ []
rules (Infix l) =
    record { right = part (Operand l) ∷ part (Operands (Some l)) ∷ []; gives = λ _ (e, (more, _)). grouped e more } ∷ []
rules (Operands None) = record { right = []; gives = λ _ _. [] } ∷ []
rules (Operands (Some l)) = record { right = []; gives = λ _ _. [] } ∷ map (infix_rule l) (signs l)
rules (Operand level.Or) = record { right = part (Infix level.And) ∷ []; gives = λ _ (e, _). e } ∷ []
rules (Operand level.And) = record { right = part (Infix level.Comparison) ∷ []; gives = λ _ (e, _). e } ∷ []
rules (Operand level.Comparison) = record { right = part (Infix level.Sum) ∷ []; gives = λ _ (e, _). e } ∷ []
rules (Operand level.Sum) = record { right = part (Infix level.Product) ∷ []; gives = λ _ (e, _). e } ∷ []
rules (Operand level.Product) = record { right = part Prefix ∷ []; gives = λ _ (e, _). e } ∷ []
rules Prefix =
    record { right = part Atom ∷ []; gives = λ _ (e, _). e }
    ∷ record {
      right = word Other Number ∷ [];
      gives = λ p (number, _). at p (form.Const (const.Number number.number));
    }
    ∷ record { right = part Signed ∷ []; gives = λ _ (e, _). e }
    ∷ []
rules Signed =
    record { right = word Operator Minus ∷ part After_minus ∷ []; gives = λ p (_, (operand, _)). negated p operand }
    ∷ record { right = word Operator Not ∷ part Prefix ∷ []; gives = λ p (_, (e, _)). at p (form.Unary unary.Not e) }
    ∷ record { right = word Operator Pre ∷ part Prefix ∷ []; gives = λ p (_, (e, _)). at p (form.Pre e) }
    ∷ record { right = word Operator Bang ∷ part Prefix ∷ []; gives = λ p (_, (e, _)). at p (form.Get e) }
    ∷ []
rules After_minus =
    record { right = part Atom ∷ []; gives = λ _ (e, _). inr e }
    ∷ record { right = word Other Number ∷ []; gives = λ _ (number, _). inl number.number }
    ∷ record { right = part Signed ∷ []; gives = λ _ (e, _). inr e }
    ∷ []
rules Atom =
    record { right = part Literal ∷ []; gives = λ _ (e, _). e }
    ∷ record {
      right = word Other Lower ∷ part Call_tail ∷ [];
      gives = λ p (name, (args, _)). at p (named name.name args);
    }
    ∷ record {
      right = word Operator OpenParen ∷ part Expression ∷ word Other CloseParen ∷ [];
      gives = λ _ (_, (e, (_, _))). e;
    }
    ∷ record { right = word Operator Merge ∷ part Merging ∷ []; gives = λ p (_, (form, _)). at p form }
    ∷ record { right = word Operator Async ∷ part Async_tail ∷ []; gives = λ p (_, (form, _)). at p form }
    ∷ []
rules Literal =
    record { right = word Other Upper ∷ []; gives = λ p (name, _). at p (form.Const (const.Constructor name.name)) }
    ∷ record { right = word Other True ∷ []; gives = λ p _. at p (form.Const (const.Truth true)) }
    ∷ record { right = word Other False ∷ []; gives = λ p _. at p (form.Const (const.Truth false)) }
    ∷ record {
      right = word Other Last ∷ word Other Lower ∷ [];
      gives = λ p (_, (name, _)). at p (form.Last name.name);
    }
    ∷ []
rules Call_tail =
    record { right = []; gives = λ _ _. None }
    ∷ record { right = part Called ∷ []; gives = λ _ (args, _). Some args }
    ∷ []
rules Called =
    record {
      right = word Operator OpenParen ∷ part Args ∷ word Other CloseParen ∷ [];
      gives = λ _ (_, (args, (_, _))). args;
    } ∷ []
rules Merging =
    record {
      right = word Other Lower ∷ part Merge_list ∷ [];
      gives = λ _ (name, (branches, _)). form.Merge name.name branches;
    } ∷ []
rules Merge_list =
    record {
      right = part Merge_branch ∷ part Merge_branches ∷ [];
      gives = λ _ (branch, (branches, _)). branch ∷ branches;
    } ∷ []
rules Merge_branches =
    record { right = []; gives = λ _ _. [] }
    ∷ record {
      right = part Merge_branch ∷ part Merge_branches ∷ [];
      gives = λ _ (branch, (branches, _)). branch ∷ branches;
    }
    ∷ []
rules Merge_branch =
    record {
      right = word Operator OpenParen ∷ part Tag_of ∷ word Other Arrow ∷ part Expression ∷ word Other CloseParen ∷ [];
      gives = λ p (_, (tag, (_, (e, (_, _))))). record { place = p; tag = tag; value = e };
    } ∷ []
rules Async_tail =
    record { right = part Constant ∷ []; gives = λ _ (k, _). form.AsyncConst k }
    ∷ record {
      right = word Other Lower ∷ part Called ∷ [];
      gives = λ _ (name, (args, _)). form.AsyncCall 2 name.name args;
    }
    ∷ record {
      right = word Other OpenAngle ∷ word Other Number ∷ word Other CloseAngle ∷ word Other Lower ∷ part Called ∷ [];
      gives = λ _ (_, (number, (_, (name, (args, _))))). form.AsyncCall (size number.number) name.name args;
    }
    ∷ []
rules Args =
    record { right = []; gives = λ _ _. [] }
    ∷ record { right = part Expression ∷ part More_args ∷ []; gives = λ _ (e, (more, _)). e ∷ more }
    ∷ []
rules More_args =
    record { right = []; gives = λ _ _. [] }
    ∷ record {
      right = word Other Comma ∷ part Expression ∷ part More_args ∷ [];
      gives = λ _ (_, (e, (more, _))). e ∷ more;
    }
    ∷ []

-- ---- derivations

pub data Among {A : Type 0} : A → List A → Type 0 where
  here : {x : A} {xs : List A} → Among x (x ∷ xs)
  there : {x y : A} {xs : List A} → Among x xs → Among x (y ∷ xs)

abbrev pub joined : (a b : List Symbol) → Values a → Values b → Values (a ++ b)
joined [] b us vs = vs
joined (word r k ∷ a) b us vs = (us.0, joined a b us.1 vs)
joined (part n ∷ a) b us vs = (us.0, joined a b us.1 vs)

-- the place of the first token
abbrev pub place_of : List Token → Place
place_of [] = record { 0 = 0 }
place_of (t ∷ ts) = t.place

-- The tokens, in these roles, spell the symbols, which stand for these values.
pub data Spells : (ss : List Symbol) → Values ss → List Token → List Role → Type 0 where
  none : Spells [] tt [] []
  token : {r : Role} {k : Kind} {ss : List Symbol} {vs : Values ss} {t : Token} {ts : List Token} {rs : List Role}
      → t.kind ≡ k → Spells ss vs ts rs → Spells (word r k ∷ ss) (t, vs) (t ∷ ts) (r ∷ rs)
  by : {n : Part} {ss : List Symbol} {vs : Values ss} {ts : List Token} {rs : List Role} (r : Rule n) → Among r (rules n) → (us : Values r.right)
      → Spells (r.right ++ ss) (joined r.right ss us vs) ts rs → Spells (part n ∷ ss) (r.gives (place_of ts) us, vs) ts rs

-- ---- bounds

-- The counts go on from an operator, begin anew before each expression, and follow the blocks that are open.
abbrev pub after : Role → Counts → Counts
after Other c = c
after Operator c = record c { operators = c.operators + 1 }
after Fresh c = record c { operators = 0 }
after Opens c = record c { blocks = c.blocks + 1 }
after OpensFresh c = record { operators = 0; blocks = c.blocks + 1 }
after Closes c = record c { blocks = c.blocks - 1 }
after ClosesFresh c = record { operators = 0; blocks = c.blocks - 1 }

-- whether a token in this role passes no bound
abbrev pub allows : Role → Counts → Bool
allows Operator c = nat_lt c.operators 512
allows Opens c = nat_lt c.blocks 64
allows OpensFresh c = nat_lt c.blocks 64
allows _ c = true

abbrev pub within : Counts → List Role → Bool
within c [] = true
within c (r ∷ rs) = allows r c && within (after r c) rs

-- The tokens spell the symbols within the bounds.
abbrev pub Fits : Counts → (ss : List Symbol) → Values ss → List Token → Type 0
Fits c ss vs ts = (rs : List Role) × Spells ss vs ts rs × (within c rs ≡ true)
