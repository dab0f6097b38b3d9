-- How the conditions of a node are collected: what was collected, after each piece of its text.
use Rattle.std.specs.Prelude.{ℕ, ◌+◌, if◌then◌else◌, is_some, List, [], ◌∷◌, ◌++◌, length, map, fold}
use Rattle.std.specs.List.{flat_map}
use Rattle.std.specs.Option.{option_to_list}
use Rattle.hept_ast.specs.Texts.{Name, names}
use Rattle.hept_ast.specs.Parts.{Placed, inside, below, expressions_of, seen_at, declaration, declared_in, expressions, variables}
use Rattle.hept_ast.specs.Clocks.{Term, Base, Of, On, Condition, equal, read_clock, term_of, reading, outer_read, expression, defined, part_conditions, own_names, conditions}
use Rattle.hept_ast.specs.declared.tree.Node.{Node}
use Rattle.hept_ast.specs.declared.tree.Decl.{Decl}
use Rattle.hept_ast.specs.declared.tree.Expr.{Expr}
use Rattle.hept_ast.specs.declared.tree.Escape.{Escape}
use Rattle.hept_ast.specs.declared.tree.Form.{Form}
use Rattle.hept_ast.specs.declared.tree.MergeBranch.{MergeBranch}
use Rattle.clock_calculus.specs.Written.{condition_of}
use Rattle.clock_calculus.specs.declared.conditions.Collected.{Collected}

-- the conditions so far, how many expressions were met, and what was declared
pub record Collection : Type 0 where
  pub conditions : List Condition
  pub count : ℕ
  -- the variables that were declared
  pub variables : List Name

abbrev pub collection : Collected → Collection
collection c = record { conditions = map condition_of c.conditions.items; count = c.expressions; variables = map (λ r. r.now) c.variables.items }

abbrev pub empty_collection : Collection
empty_collection = record { conditions = []; count = 0; variables = [] }

-- with one more expression, with one more condition, with more conditions
unfoldable pub counted : Collection → Collection
counted s = record { conditions = s.conditions; count = s.count + 1; variables = s.variables }

unfoldable pub added : Collection → ℕ → Term → Term → Collection
added s p l r = record { conditions = s.conditions ++ record { place = p; left = l; right = r } ∷ []; count = s.count; variables = s.variables }

unfoldable pub wrote : Collection → List Condition → ℕ → Collection
wrote s cs n = record { conditions = s.conditions ++ cs; count = s.count + n; variables = s.variables }

-- with more variables
unfoldable pub declaring : Collection → List Decl → Collection
declaring s ds = record { conditions = s.conditions; count = s.count; variables = s.variables ++ names ds }

-- in a scope that declares these itself
module _ (own : List Name) where
  -- after the conditions on a read of a variable from outside
  unfoldable pub after_outer : Collection → (p : ℕ) → Name → Collection
  after_outer s p x = wrote s (outer_read own p x) 0

  unfoldable pub after_reading : Collection → (p n : ℕ) → Name → Collection
  after_reading s p n x = wrote s (reading own p n x) 0

  -- after an expression that stands at p
  unfoldable pub after_form : Collection → (p : ℕ) → Form → Collection
  after_form s p form = wrote s (expression own s.count p form) (1 + length (below form))

  -- after the condition on an operand of a construct at p, which has to be on a clock
  abbrev pub expected : (p : ℕ) → Term → Collection → Expr → Collection
  expected p on s e = added s p (term_of own s.count e.form) on

  abbrev pub after_operand : (p : ℕ) → Term → Collection → Expr → Collection
  after_operand p on s e = after_form (expected p on s e) e.place.0 e.form

  abbrev pub after_branch : (p : ℕ) → Name → Collection → MergeBranch → Collection
  after_branch p x s b = after_operand p (On (read_clock own x) b.tag x) s b.value

  -- after the condition on a variable that a plain equation at p defines, whose right side is on a clock
  unfoldable pub after_defined : (p : ℕ) → Term → Collection → Name → Collection
  after_defined p right s x = wrote s (defined own p right x) 0

  -- after a plain equation at p
  unfoldable pub after_plain : (p : ℕ) → List Name → Expr → Collection → Collection
  after_plain p left right s = after_form (fold (after_defined p (term_of own s.count right.form)) s left) right.place.0 right.form

  -- after an expression that has to be on the base clock
  abbrev pub after_on_base : Collection → Expr → Collection
  after_on_base s e = after_operand e.place.0 Base s e

  unfoldable pub after_condition : Collection → Escape → Collection
  after_condition s e = after_on_base s e.condition

-- after a variable that is on the base clock by its declaration, and after one with `last`
abbrev pub after_declared : Collection → Decl → Collection
after_declared s d = added s d.place.0 (Of d.name) Base

unfoldable pub after_last : Collection → Decl → Collection
after_last s d = if is_some d.init then after_declared s d else s

-- after a variable that a block equation defines, by its declaration
unfoldable pub after_set : List Decl → Collection → Name → Collection
after_set seen s x = wrote s (flat_map (λ d. equal d.place.0 (Of x) Base) (option_to_list (declaration seen x))) 0

-- after a part that stands at a site
unfoldable pub after_part : Node → Collection → Placed → Collection
after_part node s q = wrote (declaring s (declared_in q.part)) (part_conditions (own_names node q.site) (seen_at node q.site) s.count q.part) (length (flat_map inside (expressions_of q.part)))

-- a whole node
abbrev pub of_node : Node → Collection
of_node node = record { conditions = conditions node; count = length (expressions node); variables = names (variables node) }
