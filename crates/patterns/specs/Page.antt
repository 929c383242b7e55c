-- Entry "a page of codes": document 02, paper 2.
use Rattle.std.specs.Prelude.{◌≡◌, cond, List, ℕ, leb, ltb, length, take, drop}
use Rattle.lists.specs.Select.{gather, from}
use Rattle.patterns.specs.declared.Refusal.TheVariants.{Room, Wanted}
use Rattle.patterns.specs.System.{System, weight, codes, compare_system}
use Rattle.patterns.specs.Written.{written}
use Rattle.patterns.specs.Reading.{Result, done, fault, mapped, accepted}
use Rattle.patterns.specs.Replies.{number_of, PageAnswer, page_is, page_refused}
use Rattle.patterns.specs.Entry.{Outcome, gives, filled, outcome}

-- the codes after S in the list of all codes of as many points
unfoldable pub later : System → List System
unfolding codes compare_system
later S = drop 1 (from compare_system S (codes (weight S)))

-- "up to 1,000 successors of a code": the next k codes, fewer where the list ends before
unfoldable pub successors : ℕ → System → List System
unfolding later
successors k S = take k (later S)

-- "one after another with nothing between them"
abbrev pub page_bytes : List System → List ℕ
page_bytes page = gather written page

-- the codes of the page: "a wanted number above 1,000 is refused first of all with 10", then the code's own checks decide
unfoldable pub page_of : ℕ → List ℕ → Result (List System)
unfolding accepted successors written
page_of wanted b =
    let page = mapped (successors wanted) (accepted b) in
    cond (ltb 1000 wanted) (fault Wanted) page

-- what there is to write of it
abbrev pub page_found : Result (List System) → Outcome ℕ
page_found found = outcome found (λ page. gives (page_bytes page))

-- "how many codes it wrote and their total length", given the output as it was lent: 8 where the whole page does not fit
abbrev pub page_answered : Result (List System) → List ℕ → PageAnswer
page_answered (done page) out =
    let bytes = length (page_bytes page) in
    cond (leb bytes (length out)) (page_is (length page) bytes) (page_refused (number_of Room))
page_answered (fault c) out = page_refused (number_of c)

-- an entry that found these codes, or a refusal, replied and left the output so
pub record PageReplied (found : Result (List System)) (before : List ℕ) (answer : PageAnswer) (after : List ℕ) : Type 0 where
  pub reply : answer ≡ page_answered found before
  pub output : after ≡ filled (page_found found) before
