-- The text of the file that the words name.
use Rattle.std.proofs.Common.{◌≡◌, ◌⊎◌, inl, inr, ℕ, List, Option, Some, None, ap}
use Rattle.hept_io.specs.Outside.{Files, HasFile}
use Rattle.run_checks.specs.Words.{file_of}
use Rattle.run_messages.specs.declared.end.End.{End}
use Rattle.run_messages.specs.declared.end.End.TheVariants.{Usage, Memory}
use Rattle.hepasync_top.specs.Run.{IsFileText, RefusesText}

pub name_is : (words : List (List ℕ)) (name other : List ℕ) → file_of words ≡ Some name → file_of words ≡ Some other → name ≡ other
name_is words name other h k = cc

bytes_are : (files : Files) (name other text bytes : List ℕ) → name ≡ other → HasFile files name text → HasFile files other bytes → bytes ≡ text
bytes_are files name other text bytes e h k = let g : files name ≡ files other = ap files e in cc

-- a store that tells its files has one text under the name
pub one_text : (files : Files) (words : List (List ℕ)) (text other : List ℕ) → IsFileText (Some files) words text → IsFileText (Some files) words other → other ≡ text
one_text files words text other h k = bytes_are files h.name k.name text other (name_is words h.name k.name h.named k.named) h.file k.file

-- the words that name a text name a file
pub has_words : (files : Option Files) (words : List (List ℕ)) (text : List ℕ) → IsFileText files words text → file_of words ≡ None → ⊥
has_words files words text h none = let some = h.named in absurd cc

-- no text is refused for its words
pub not_for_words : (text : List ℕ) (end : End) → (end ≡ Memory) ⊎ RefusesText text end → end ≡ Usage → ⊥
not_for_words text end (inl m) u = absurd cc
not_for_words text end (inr (r, is, h)) u = absurd cc
