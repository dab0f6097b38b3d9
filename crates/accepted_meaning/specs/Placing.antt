-- The scopes that a run of a program asks about: where they stand in the text.
use Rattle.std.specs.Prelude.{◌≡◌, ℕ, Bool, List, [], ◌∷◌, ◌++◌, Contains, Some, slice_get}
use Rattle.hept_ast.specs.Texts.{Name}
use Rattle.hept_ast.specs.Scopes.{Clock, Text, Written, Scope, Top, Called, In_branch, In_body, In_state, Under, block_of, calls_around, state_block, text_of}
use Rattle.hept_ast.specs.Parts.{Branch_of, Body_of, State_of, Surroundings, strong_of_all}
use Rattle.hept_ast.specs.Meaning.{Setting, call_of}
use Rattle.hept_ast.specs.Settings.{Replies}
use Rattle.hept_ast.specs.Stages.{ClockedProgram}
use Rattle.hept_ast.specs.Types.{types_of}
use Rattle.hept_ast.specs.declared.tree.Expr.{Expr}
use Rattle.hept_ast.specs.declared.tree.Block.{Block}
use Rattle.hept_ast.specs.declared.tree.Branch.{Branch}
use Rattle.hept_ast.specs.declared.tree.State.{State}
use Rattle.hept_ast.specs.declared.tree.Node.{Node}
use Rattle.hept_ast.specs.declared.tree.Ty.{Ty}
use Rattle.hept_ast.specs.declared.tree.Equation.{Equation, out-Equation}
use Rattle.hept_ast.specs.declared.tree.Equation.TheOpen.{Equation-F}
use Rattle.hept_ast.specs.declared.tree.Form.{out-Form}
use Rattle.hept_ast.specs.declared.name.Place.{Place}
use Rattle.sound_expressions.specs.Sound.{Sound}
use Rattle.accepted_meaning.specs.SoundNodes.{SoundNode, within}
use Rattle.hept_ast.specs.TypedValues.{AreValuesOf}

-- what stands around what a scope's block holds, within its node's text
abbrev pub site_of : Scope → Surroundings
site_of (Top text) = []
site_of (Called s clock place args text) = []
site_of (In_branch s on branch) = Branch_of on branch.block.locals ∷ site_of s
site_of (In_body s every block) = Body_of every block.locals ∷ site_of s
site_of (In_state s states position) = State_of (strong_of_all states) (state_block states position).locals ∷ site_of s
site_of (Under s resets) = site_of s

module _ (c : ClockedProgram) (w : Setting) (top : Text) where
  -- the scopes that the bodies of the chosen node and of the nodes called there are made of
  pub data IsPlaced : Scope → Type 0 where
    at_top : IsPlaced (Top top)
    at_call : {s : Scope} {e : Expr} {clock : Clock} {ts : List Ty} {args : List Expr} {n m : ℕ} {node callee : Node} {g : Name → Bool} →
        IsPlaced s → text_of s ≡ Written n node → SoundNode (within c n node g) → Sound (within c n node g) (site_of s) e clock ts →
        call_of w (out-Form e.form) ≡ Some (args, Written m callee) → IsPlaced (Called s clock e.place.0 args (Written m callee))
    at_branch : {s : Scope} {e : Equation} {p : Place} {on : Expr} {branches : List Branch} {b : Branch} →
        IsPlaced s → Contains (block_of s).body e → out-Equation e ≡ Equation-F.Switch p on branches → Contains branches b → IsPlaced (In_branch s on b)
    at_reset : {s : Scope} {e : Equation} {p : Place} {block : Block} {every : Expr} →
        IsPlaced s → Contains (block_of s).body e → out-Equation e ≡ Equation-F.Reset p block every → IsPlaced (In_body s every block)
    at_state : {s : Scope} {e : Equation} {p : Place} {states : List State} {k : ℕ} {q : State} →
        IsPlaced s → Contains (block_of s).body e → out-Equation e ≡ Equation-F.Automaton p states → slice_get states k ≡ Some q → IsPlaced (In_state s states k)

  -- each reply to a call, by the calls around it and its place, is one value for each output of the called node
  pub record RepliesFit (replies : Replies) : Type 0 where
    pub fit : (s : Scope) (e : Expr) (clock : Clock) (ts : List Ty) (args : List Expr) (n m number : ℕ) (node callee : Node) (g : Name → Bool) (outs : List ℕ) →
        IsPlaced s → text_of s ≡ Written n node → SoundNode (within c n node g) → Sound (within c n node g) (site_of s) e clock ts → call_of w (out-Form e.form) ≡ Some (args, Written m callee) →
        replies (calls_around s ++ e.place.0 ∷ []) number ≡ Some outs → AreValuesOf c.program.types (types_of callee.outputs) outs
