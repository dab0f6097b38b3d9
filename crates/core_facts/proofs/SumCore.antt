-- The core that sums its inputs has the static facts.
use Rattle.std.proofs.Common.{◌≡◌, List, [], ◌++◌, refl, arith, pos}
use Rattle.std.specs.Prelude.{All, codes}
use Rattle.std.proofs.lemmas.List.Elements.{All-cons, All-nil, All-from_recursion}
use Rattle.hept_ast.specs.Texts.{Name}
use Rattle.hept_ast.specs.Parts.{inside}
use Rattle.hept_ast.specs.declared.tree.CoreNode.{CoreNode}
use Rattle.hept_ast.specs.declared.tree.Decl.{Decl}
use Rattle.hept_ast.specs.declared.tree.Expr.{Expr}
use Rattle.hept_ast.specs.TypedValues.{FitsConst}
use Rattle.hept_ast.specs.declared.tree.Const.TheVariants.{Number}
use Rattle.hept_ast.specs.declared.tree.BinaryOp.TheVariants.{Add}
use Rattle.hept_ast.specs.declared.tree.Form.TheVariants as form
use Rattle.hept_ast.specs.declared.tree.Form.{out-Form}
use Rattle.hept_ast.proofs.Unfolded.{static}
use denote.Hole.Carrier
use Rattle.core_rules.specs.WellFormed.{expr, sum_core, sum_node}
use Rattle.core_facts.specs.Undefined.{Among, Grades, lists_of, lists_row}
use Rattle.core_facts.specs.Static.{GivesNoFuture, StaticEquation, StaticExpr, StaticNode}
use Rattle.core_facts.specs.Kept.{SumIsStatic}

-- none of its variables is ever undefined
never : Grades
never x = []

defined : {A : Type 0} (l : List Name) → Among l [] → A
defined l i = elim i [ ]

no_calls : All (GivesNoFuture sum_core) []
no_calls = All-nil (GivesNoFuture sum_core)

zero_fits : FitsConst (Number (pos 0))
zero_fits = omega arith

abbrev delayed : Expr
delayed = expr (form.Fby (expr (form.Const (Number (pos 0)))) (expr (form.Var (codes "s"))))

abbrev total : Expr
total = expr (form.Binary Add (expr (form.Var (codes "x"))) (expr (form.Var (codes "y"))))

all_static : StaticNode sum_core sum_node never
unfolding static lists_of lists_row out-Form Carrier.out never
all_static = record {
  equations = All-from_recursion (StaticEquation sum_core sum_node never) sum_node.equations (
    record {
      left = λ x i l j. defined l j;
      right = All-from_recursion (StaticExpr sum_core never []) (inside delayed) (
        record { demands = refl; arrow = tt; number = tt; plain = no_calls; branch = tt },
        (record { demands = refl; arrow = tt; number = zero_fits; plain = no_calls; branch = tt }, (record { demands = refl; arrow = tt; number = tt; plain = no_calls; branch = tt }, tt)),
      );
      clock = tt;
      resets = λ x i. refl;
    },
    (
      record {
        left = λ x i l j. defined l j;
        right = All-from_recursion (StaticExpr sum_core never []) (inside total) (
          record { demands = refl; arrow = tt; number = tt; plain = no_calls; branch = tt },
          (record { demands = refl; arrow = tt; number = tt; plain = no_calls; branch = tt }, (record { demands = refl; arrow = tt; number = tt; plain = no_calls; branch = tt }, tt)),
        );
        clock = tt;
        resets = λ x i. refl;
      },
      tt,
    ),
  );
  interface = All-from_recursion (λ (d : Decl). never d.name ≡ []) (sum_node.inputs ++ sum_node.outputs) (refl, (refl, tt));
}

pub sum_is_static : SumIsStatic
sum_is_static = record { types = tt; constructors = tt; nodes = All-cons (λ (n : CoreNode). (g : Grades) × StaticNode sum_core n g) sum_node [] (never, all_static) (All-nil (λ (n : CoreNode). (g : Grades) × StaticNode sum_core n g)) }
