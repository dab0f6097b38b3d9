-- A program that is served runs to the end of a trace whose lines all spell rows.
use Rattle.std.proofs.Common.{◌≡◌, ℕ, ◌<◌, ◌⊎◌, inl, inr, List, length, Option, Some, None, refl, ap, subst, ◌∙◌, arith}
use Rattle.std.specs.Prelude.{IfSome}
use Rattle.ept_reader.specs.Spelling.{IsProgramText}
use Rattle.hept_ast.specs.declared.tree.Program.{Program}
use Rattle.hept_io.specs.Outside.{Files, HasNone, Rose, IsLarge}
use Rattle.hept_io.specs.LineLaws.{NoneOfNone}
use Rattle.hept_io.specs.Lines.{lines_of}
use Rattle.run_messages.specs.declared.end.FileFault.{FileFault}
use Rattle.run_messages.specs.declared.end.FileFault.TheVariants.{Failed, TooLarge, Missing}
use Rattle.step_objects.specs.declared.shape.Values.{Values}
use Rattle.run_messages.specs.Ends.{status_of}
use Rattle.run_messages.specs.declared.end.End.{End}
use Rattle.run_messages.specs.declared.end.End.TheVariants.{Ended, Refused, Usage, File, BadRow, Limit, ReadFault, WriteFault, Memory}
use Rattle.step_objects.specs.Interfaces.{input_shape}
use Rattle.hepasync_top.specs.LineEnds.{lines_end, FollowsLines, ReadsWhole}
use Rattle.hepasync_top.specs.Objects.{StoreChange, StreamChange}
use Rattle.hepasync_top.specs.Run.{Ends, EndsWhole, FileIsNotRead, IsFileText, IsWhole, StopsFor}
use Rattle.hepasync_top.specs.Turns.{RunEnds}
use Rattle.hepasync_top.proofs.Lines.{follows, whole_end}
use Rattle.hepasync_top.proofs.FileTexts.{has_words, name_is, one_text}

-- a run over lines that all spell rows
runs_whole : (end : End) (Reads Writes : Type 0) → (end ≡ ReadFault → Reads) → (end ≡ WriteFault → Writes) → (inputs : List Values) (limit : ℕ) (bytes : List ℕ) → FollowsLines inputs limit bytes end →
    lines_end inputs limit 0 (lines_of bytes) ≡ Ended → (status_of end ≡ 0) ⊎ (Reads ⊎ Writes)
runs_whole Ended Reads Writes r w inputs limit bytes h e = inl refl
runs_whole (Refused a) Reads Writes r w inputs limit bytes h e = inl (ap status_of (h ∙ e))
runs_whole Usage Reads Writes r w inputs limit bytes h e = inl (ap status_of (h ∙ e))
runs_whole (File f) Reads Writes r w inputs limit bytes h e = inl (ap status_of (h ∙ e))
runs_whole (BadRow l f) Reads Writes r w inputs limit bytes h e = inl (ap status_of (h ∙ e))
runs_whole (Limit n) Reads Writes r w inputs limit bytes h e = inl (ap status_of (h ∙ e))
runs_whole ReadFault Reads Writes r w inputs limit bytes h e = inr (inl (r refl))
runs_whole WriteFault Reads Writes r w inputs limit bytes h e = inr (inr (w refl))
runs_whole Memory Reads Writes r w inputs limit bytes h e = inl (ap status_of (h ∙ e))

-- a file of the store that isn't too large is not read only for a fault
fault_rose : (fault : FileFault) (files : Files) (words : List (List ℕ)) (store : StoreChange) (text : List ℕ) → store.files ≡ Some files → IsFileText (Some files) words text → FileIsNotRead fault words store →
    Rose store.faults_before store.faults_after
fault_rose Failed files words store text is file h = h.cause
fault_rose TooLarge files words store text is file h =
    let name : h.name ≡ file.name = name_is words h.name file.name h.named file.named in
    let large : IsLarge files h.name = subst (λ (o : Option Files). IfSome o (λ map. IsLarge map h.name)) is h.cause in
    let same : large.0 ≡ text = let a = large.1 in let b = file.file in let e : files h.name ≡ files file.name = ap files name in cc in
    let many : 1048576 < length text = subst (λ (bytes : List ℕ). 1048576 < length bytes) same large.2 in
    absurd (omega (arith, many, file.few))
fault_rose Missing files words store text is file h =
    let name : h.name ≡ file.name = name_is words h.name file.name h.named file.named in
    let none : files h.name ≡ None = subst (λ (o : Option Files). HasNone o h.name) is h.cause in
    let b = file.file in let e : files h.name ≡ files file.name = ap files name in absurd cc

-- a run that ends without a text, though the store has the file
stops_whole : (end : End) (files : Files) (words : List (List ℕ)) (store : StoreChange) (text : List ℕ) → store.files ≡ Some files → IsFileText (Some files) words text → StopsFor end words store →
    (status_of end ≡ 8) ⊎ Rose store.faults_before store.faults_after
stops_whole Memory files words store text is file h = inl refl
stops_whole (File fault) files words store text is file h = inr (fault_rose fault files words store text is file h)
stops_whole Usage files words store text is file h = absurd (has_words (Some files) words text file h)
stops_whole Ended files words store text is file h = absurd h
stops_whole (Refused a) files words store text is file h = absurd h
stops_whole (BadRow l f) files words store text is file h = absurd h
stops_whole (Limit n) files words store text is file h = absurd h
stops_whole ReadFault files words store text is file h = absurd h
stops_whole WriteFault files words store text is file h = absurd h

-- the status of an end, and which counts rose
both : (status : ℕ) (end : End) (Store Reads Writes : Type 0) → status ≡ status_of end → ((status_of end ≡ 0) ⊎ (Reads ⊎ Writes)) ⊎ ((status_of end ≡ 8) ⊎ Store) →
    (status ≡ 0) ⊎ ((status ≡ 8) ⊎ (Store ⊎ (Reads ⊎ Writes)))
both status end Store Reads Writes e (inl (inl h)) = inl (e ∙ h)
both status end Store Reads Writes e (inl (inr h)) = inr (inr (inr h))
both status end Store Reads Writes e (inr (inl h)) = inr (inl (e ∙ h))
both status end Store Reads Writes e (inr (inr h)) = inr (inr (inl h))

-- what a run comes to whose text spells a program that can be run, over a trace whose lines all spell rows
comes_whole : NoneOfNone → (limit : ℕ) (bytes : List ℕ) (trace out : StreamChange) (p : Program) (end : End) (Store : Type 0) → trace.before ≡ Some bytes → ReadsWhole (input_shape p) limit bytes →
    (end ≡ ReadFault → Rose trace.faults_before trace.faults_after) → (end ≡ WriteFault → Rose out.faults_before out.faults_after) →
    RunEnds p limit trace.before out.before trace.after out.after end ⊎ (end ≡ Memory) →
    ((status_of end ≡ 0) ⊎ (Rose trace.faults_before trace.faults_after ⊎ Rose out.faults_before out.faults_after)) ⊎ ((status_of end ≡ 8) ⊎ Store)
comes_whole none limit bytes trace out p end Store is read r w (inl runs) =
    let over : RunEnds p limit (Some bytes) out.before trace.after out.after end = subst (λ (coming : Option (List ℕ)). RunEnds p limit coming out.before trace.after out.after end) is runs in
    inl (runs_whole end (Rose trace.faults_before trace.faults_after) (Rose out.faults_before out.faults_after) r w (input_shape p) limit bytes
    (follows none p limit bytes out.before trace.after out.after end over) (whole_end (input_shape p) limit bytes read))
comes_whole none limit bytes trace out p end Store is read r w (inr m) = inr (inl (ap status_of m))

ends_so : NoneOfNone → (limit : ℕ) (files : Files) (words : List (List ℕ)) (bytes : List ℕ) (store : StoreChange) (trace out : StreamChange) (end : End) → store.files ≡ Some files → trace.before ≡ Some bytes →
    (end ≡ ReadFault → Rose trace.faults_before trace.faults_after) → (end ≡ WriteFault → Rose out.faults_before out.faults_after) → IsWhole limit files words bytes → Ends limit words store trace out end →
    ((status_of end ≡ 0) ⊎ (Rose trace.faults_before trace.faults_after ⊎ Rose out.faults_before out.faults_after)) ⊎ ((status_of end ≡ 8) ⊎ Rose store.faults_before store.faults_after)
ends_so none limit files words bytes store trace out end is told r w whole (inl s) = inr (stops_whole end files words store whole.text is whole.file s)
ends_so none limit files words bytes store trace out end is told r w whole (inr (text, file, h)) =
    let told_file : IsFileText (Some files) words text = subst (λ (o : Option Files). IsFileText o words text) is file in
    let same : whole.text ≡ text = one_text files words text whole.text told_file whole.file in
    let spelled : IsProgramText text whole.program = subst (λ (t : List ℕ). IsProgramText t whole.program) same whole.spelled in
    comes_whole none limit bytes trace out whole.program end (Rose store.faults_before store.faults_after) told whole.read r w (h.serves whole.program spelled whole.runs)

where_some : {X : Type 0} (o : Option X) (P : X → Type 0) → ((x : X) → o ≡ Some x → P x) → IfSome o P
where_some None P h = tt
where_some (Some x) P h = h x refl

pub ends_whole : NoneOfNone → (limit : ℕ) (words : List (List ℕ)) (store : StoreChange) (trace out : StreamChange) (end : End) (status : ℕ) → status ≡ status_of end → Ends limit words store trace out end →
    (end ≡ ReadFault → Rose trace.faults_before trace.faults_after) → (end ≡ WriteFault → Rose out.faults_before out.faults_after) → EndsWhole limit words store trace out status
ends_whole none limit words store trace out end status is h r w = where_some store.files _ (λ files stored. where_some trace.before _ (λ bytes told. λ whole.
    both status end (Rose store.faults_before store.faults_after) (Rose trace.faults_before trace.faults_after) (Rose out.faults_before out.faults_after) is
    (ends_so none limit files words bytes store trace out end stored told r w whole h)))
