-- Rules and questions that come to the same.
use Rattle.std.proofs.Common.{◌≡◌, Bool, true, false, refl, subst}
use Rattle.std.specs.Prelude.{if◌then◌else◌}
use Rattle.hept_ast.specs.Meaning.{Question, Answer, Rule, Says, Asks, answer_to, rule}
use Rattle.hept_ast.specs.Outputs.{Knows, Follows, said, asked}
use Rattle.hept_ast.proofs.Depths.{by_rule, to_rule, one_answer}
use Rattle.accepted_meaning.specs.Running.{Run, IsKnown, setting_of}

-- a rule comes to what another comes to
abbrev pub Comes : Run → Rule → Answer → Type 0
Comes r d a = Follows (Knows (setting_of r) r.rows) r.rows d a

pub record Same (r : Run) (d e : Rule) : Type 0 where
  pub to : (a : Answer) → Comes r d a → Comes r e a
  pub from : (a : Answer) → Comes r e a → Comes r d a

-- a question has the answer of another
pub record Alike (r : Run) (p q : Question) : Type 0 where
  pub to : (a : Answer) → IsKnown r p a → IsKnown r q a
  pub from : (a : Answer) → IsKnown r q a → IsKnown r p a

pub same_itself : {r : Run} {d : Rule} → Same r d d
same_itself = record { to = λ a h. h; from = λ a h. h }

pub same_trans : {r : Run} {c d e : Rule} → Same r c d → Same r d e → Same r c e
same_trans g h = record { to = λ a x. h.to a (g.to a x); from = λ a x. g.from a (h.from a x) }

pub same_back : {r : Run} {d e : Rule} → Same r d e → Same r e d
same_back h = record { to = h.from; from = h.to }

pub alike_itself : {r : Run} {q : Question} → Alike r q q
alike_itself = record { to = λ a h. h; from = λ a h. h }

pub alike_trans : {r : Run} {o p q : Question} → Alike r o p → Alike r p q → Alike r o q
alike_trans g h = record { to = λ a x. h.to a (g.to a x); from = λ a x. g.from a (h.from a x) }

pub alike_back : {r : Run} {p q : Question} → Alike r p q → Alike r q p
alike_back h = record { to = h.from; from = h.to }

answered : (r : Run) (q : Question) (go : Answer → Rule) (a b : Answer) → IsKnown r q a → Comes r (Asks q go) b → Comes r (go a) b
answered r q go a b h (asked {a = c} g f) = subst (λ (x : Answer). Comes r (go x) b) (one_answer (setting_of r) r.rows q c a g h) f

-- a question with a known answer
pub same_ask : (r : Run) (q : Question) (go : Answer → Rule) (a : Answer) → IsKnown r q a → Same r (Asks q go) (go a)
same_ask r q go a h = record { to = λ b x. answered r q go a b h x; from = λ b x. asked h x }

asked_alike : (r : Run) (p q : Question) (go to : Answer → Rule) (b : Answer) → ((a : Answer) → IsKnown r p a → IsKnown r q a) → ((a : Answer) (c : Answer) → Comes r (go a) c → Comes r (to a) c) → Comes r (Asks p go) b → Comes r (Asks q to) b
asked_alike r p q go to b h k (asked {a = c} g f) = asked (h c g) (k c b f)

pub same_asks : (r : Run) (p q : Question) (go to : Answer → Rule) → Alike r p q → ((a : Answer) → Same r (go a) (to a)) → Same r (Asks p go) (Asks q to)
same_asks r p q go to h k = record {
  to = λ b x. asked_alike r p q go to b h.to (λ a c y. (k a).to c y) x;
  from = λ b x. asked_alike r q p to go b h.from (λ a c y. (k a).from c y) x;
}

pub same_if : (r : Run) (b : Bool) (c d e : Rule) → Same r c d → Same r (if b then c else e) (if b then d else e)
same_if r true c d e h = h
same_if r false c d e h = same_itself

said_is : (r : Run) (a b : Answer) → Comes r (Says a) b → a ≡ b
said_is r a _ said = refl

pub known_of : (r : Run) (q : Question) (a : Answer) → Comes r (answer_to q) a → IsKnown r q a
known_of r q a (asked {a = c} g f) = subst (λ (x : Answer). IsKnown r q x) (said_is r c a f) g

-- questions whose rules come to the same
pub alike_rules : (r : Run) (p q : Question) → Same r (rule (setting_of r) p) (rule (setting_of r) q) → Alike r p q
alike_rules r p q h = record {
  to = λ a k. to_rule (setting_of r) r.rows q a (h.to a (by_rule (setting_of r) r.rows p a k)) k.known;
  from = λ a k. to_rule (setting_of r) r.rows p a (h.from a (by_rule (setting_of r) r.rows q a k)) k.known;
}

-- a question whose rule asks another and says its answer
pub alike_answer : (r : Run) (p q : Question) → Same r (rule (setting_of r) p) (answer_to q) → Alike r p q
alike_answer r p q h = record {
  to = λ a k. known_of r q a (h.to a (by_rule (setting_of r) r.rows p a k));
  from = λ a k. to_rule (setting_of r) r.rows p a (h.from a (asked k said)) k.known;
}
