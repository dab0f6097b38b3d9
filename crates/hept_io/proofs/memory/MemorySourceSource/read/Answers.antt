use Rattle.std.proofs.Common.{◌≡◌, ◌+◌, ℕ, List, ◌++◌, drop, take, length, sym, ap, ◌∙◌, arith, take-append-drop}
use Rattle.std.proofs.lemmas.List.{take_at, drop-drop, take_rest, length-take-le}
use Rattle.hept_io.proofs.memory.MemorySourceSource.read.Goals as goal

-- what was copied to the front of the buffer stands before what is left
copied : (xs ys rest : List ℕ) (at n : ℕ) → ys ≡ take n (drop at xs) → length ys ≡ n → drop at xs ≡ take n (ys ++ rest) ++ drop (at + n) xs
copied xs ys rest at n is long =
    sym (take-append-drop n (drop at xs)) ∙ ap (λ l. l ++ drop n (drop at xs)) (sym is ∙ sym (take_at ys rest n long)) ∙ ap (λ l. take n (ys ++ rest) ++ l) (drop-drop n at xs)

pub returns-clause-taken : goal.returns-clause-taken
returns-clause-taken c =
    let bytes = c.args.self.now.bytes.items in
    let n = c.min-n.result in
    let whole : c.copy_from_slice.new.self ≡ take n (drop c.args.self.now.at bytes) = rw (c.deref.ensures.value, take_rest) at c.copy_from_slice.ensures.after in
    copied bytes c.copy_from_slice.new.self _ c.args.self.now.at n whole (c.copy_from_slice.ensures.len ∙ length-take-le n c.args.buf.now (omega arith))
