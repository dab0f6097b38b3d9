-- The scopes and clocks that a run asks about have clocks made of variables that are seen there.
use Rattle.std.specs.Prelude.{◌≡◌, ⊤, [], ◌∷◌, ◌++◌}
use Rattle.hept_ast.specs.Texts.{Name}
use Rattle.hept_ast.specs.Scopes.{Clock, Scope, Top, Called, In_branch, In_body, In_state, Under}
use Rattle.hept_ast.specs.declared.tree.Decl.{Decl}
use Rattle.hept_ast.specs.declared.tree.Expr.{Expr}
use Rattle.hept_ast.specs.declared.tree.Block.{Block}
use Rattle.sound_expressions.specs.Sound.{Within, Sees}
use Rattle.accepted_meaning.specs.Placing.{site_of}
use Rattle.accepted_meaning.specs.Running.{Run, StandsIn}
use Rattle.accepted_meaning.specs.Structure.{IsCallIn}

-- a scope, and the body of a reset in it at any depth
pub data IsBodyIn : Scope → Scope → Type 0 where
  no_body : {s : Scope} → IsBodyIn s s
  in_reset : {g s : Scope} {every : Expr} {block : Block} → IsBodyIn g s → IsBodyIn g (In_body s every block)

-- two scopes that only bodies of resets separate
pub record AreTogether (s u : Scope) : Type 0 where
  pub around : Scope
  pub first : IsBodyIn around s
  pub second : IsBodyIn around u

-- a variable that is seen, on a clock, in a scope together with this one
pub record IsReached (r : Run) (k : Within) (s : Scope) (x : Name) (c : Clock) : Type 0 where
  pub scope : Scope
  pub together : AreTogether s scope
  pub stands : StandsIn r k scope
  pub declaration : Decl
  pub sees : Sees k (site_of scope) x declaration c

-- each step of a clock names a variable that is reached on the clock of the steps before
abbrev pub AreReached : Run → Within → Scope → (before : Clock) → Clock → Type 0
AreReached r k s before [] = ⊤
AreReached r k s before (step ∷ steps) = IsReached r k s step.name before × AreReached r k s (before ++ step ∷ []) steps

abbrev pub IsScoped : Run → Within → Scope → Clock → Type 0
IsScoped r k s c = AreReached r k s [] c

-- the clock of what is seen is reached
abbrev pub HasScopedClocks : Run → Type 0
HasScopedClocks r = (k : Within) (s : Scope) (x : Name) (d : Decl) (c : Clock) → StandsIn r k s → Sees k (site_of s) x d c → IsScoped r k s c

-- each call around a scope stands on a clock of variables that are reached there
abbrev pub IsAsked : Run → Scope → Type 0
IsAsked r (Top text) = ⊤
IsAsked r (Called s clock place args text) =
    (k : Within) × (callee : Within) × (e : Expr) × IsAsked r s × StandsIn r k s × IsCallIn r k s e clock args text callee × (e.place.0 ≡ place) × IsScoped r k s clock
IsAsked r (In_branch s on branch) = IsAsked r s
IsAsked r (In_body s every block) = IsAsked r s
IsAsked r (In_state s states k) = IsAsked r s
IsAsked r (Under s resets) = ⊥
