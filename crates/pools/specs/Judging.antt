-- What a judging answers.
--   verdict_of  a judgement that holds the key, as a verdict
--   told        the answer of a judging that writes the key into a buffer
--   Kept        the buffer is as it was, unless a key was given
--   words_text, verdict_text   numbers, each after a space; a judgement in words, as bytes
-- Assumes nothing.
use Rattle.std.specs.Prelude.{◌≡◌, ℕ, List, ◌++◌, Ok, Err, codes, decimal, Result}
use Rattle.std.specs.List.{flat_map}
use Rattle.sharing.specs.Refusals as refusals
use Rattle.sharing.specs.declared.refusal.Refusal.{Refusal}
use Rattle.pools.specs.Sessions.{Answer, verdict, refused_by}
use Rattle.pools.specs.Verdicts.{Verdict, contradictory, undecided, decided}
use Rattle.pools.specs.declared.judgement.Judgement.{Judgement}
use Rattle.pools.specs.declared.judgement.Judgement.TheVariants.{Contradictory, Open, Key}

abbrev pub verdict_of : Judgement (List ℕ) → Verdict
verdict_of Contradictory = contradictory
verdict_of Open = undecided
verdict_of (Key k) = decided k

abbrev pub told : Result (Judgement (Unit {0})) Refusal → List ℕ → Answer
told (Ok Contradictory) key = verdict contradictory
told (Ok Open) key = verdict undecided
told (Ok (Key _)) key = verdict (decided key)
told (Err e) key = refused_by (refusals.number e)

abbrev pub Kept : Result (Judgement (Unit {0})) Refusal → List ℕ → List ℕ → Type 0
Kept (Ok Contradictory) before after = after ≡ before
Kept (Ok Open) before after = after ≡ before
Kept (Ok (Key _)) before after = Unit {0}
Kept (Err e) before after = after ≡ before

abbrev pub words_text : List ℕ → List ℕ
words_text words = flat_map (λ v. codes " " ++ decimal v) words

abbrev pub verdict_text : Judgement (List ℕ) → List ℕ
verdict_text Contradictory = codes "contradictory"
verdict_text Open = codes "open"
verdict_text (Key k) = codes "key" ++ words_text k
