-- Why a line is refused: 1, 14 and 15 are the only causes, and 15 is the cause exactly where the line is in order but for its rows.
use mathlib.Core.Path.{◌≡◌, refl, ap, ap₂, sym, ◌∙◌, subst}
use mathlib.Core.Bool.{true, cond, ◌&&◌}
use mathlib.Core.List.{List, [], ◌∷◌, ◌++◌}
use Prim.Native.Nat.{ℕ, ◌≤◌}
use lib.Dec.{ltb, eqb}
use lib.ListN.{length, get_or, take, drop}
use lib.Seq.{drop_at}
use borrow.Author.Tests.{eqb-true}
use Rattle.lists.specs.Select.{each, gather}
use Rattle.lists.proofs.Tests.{choose-case, clash}
use Rattle.patterns.specs.declared.Refusal.{Refusal}
use Rattle.patterns.specs.declared.Refusal.TheVariants.{Count, LineForm, OutDegree}
use Rattle.patterns.specs.Reading.{Result, done, fault, and_then}
use Rattle.patterns.specs.Digraph6.{size_field, in_format, bits_of, is_line_body, sized, read_size, shortest, read_count, read_matrix, read_line_body, read_line}
use Rattle.form_theory.proofs.Results.{good-done}
use Rattle.line_theory.proofs.RowFaults.{WrongRow, rows-fault, rows-wrong}
use Rattle.line_theory.proofs.Sizes.{Counted, count-good, count-back}

-- the cause of a fault has P; what was read claims nothing
abbrev Blames : {A : Type 0} → (Refusal → Type 0) → Result A → Type 0
Blames P (done x) = Unit {0}
Blames P (fault c) = P c

blames-then : {A B : Type 0} (P : Refusal → Type 0) (r : Result A) (f : A → Result B) → Blames P r → ((x : A) → r ≡ done x → Blames P (f x)) → Blames P (and_then r f)
blames-then P (done x) f b h = h x refl
blames-then P (fault c) f b h = b

blames-fault : {A : Type 0} (P : Refusal → Type 0) (r : Result A) {c : Refusal} → r ≡ fault c → Blames P r → P c
blames-fault P r e b = subst (Blames P) e b

-- the causes of a size, and those of a line
pub data SizeFault : Refusal → Type 0 where
  too_many : SizeFault Count
  size_form : SizeFault LineForm

pub data LineFault : Refusal → Type 0 where
  too_many_points : LineFault Count
  line_form : LineFault LineForm
  out_degree : LineFault OutDegree

sized-blames : (j k : ℕ) (s : List ℕ) → Blames SizeFault (sized j k s)
unfolding sized
sized-blames j k s =
    let digits = take k (drop j s) in
    choose-case (Blames SizeFault) (eqb (length digits) k && each in_format digits) (λ t. tt) (λ t. size_form)

size-blames : (s : List ℕ) → Blames SizeFault (read_size s)
unfolding read_size
size-blames s =
    choose-case (Blames SizeFault) (eqb (get_or s 0 0) 126)
    (λ t. choose-case (Blames SizeFault) (eqb (get_or s 1 0) 126) (λ u. sized-blames 2 6 s) (λ u. sized-blames 1 3 s))
    (λ t. sized-blames 0 1 s)

count-blames : (s : List ℕ) → Blames SizeFault (read_count s)
unfolding read_count
count-blames s =
    blames-then SizeFault (read_size s) (λ p. cond (ltb 200 p.0) (fault Count) (shortest p)) (size-blames s) (λ p e.
    choose-case (Blames SizeFault) (ltb 200 p.0) (λ t. too_many) (λ t.
    choose-case (Blames SizeFault) (eqb p.1 (length (size_field p.0))) (λ u. tt) (λ u. size_form)))

-- All is in order but for the rows: the size, of at most 200 points and in its shortest form, and the bytes of the matrix.
pub record DegreeFault (l : List ℕ) : Type 0 where
  pub points : ℕ
  pub few : points ≤ 200
  pub body : List ℕ
  pub line_is : l ≡ 38 ∷ (size_field points ++ body)
  pub in_form : is_line_body points body ≡ true
  pub wrong : WrongRow points points (gather bits_of body)

-- what a fault of the line l says
abbrev Faulty : List ℕ → Refusal → Type 0
Faulty l c = LineFault c × (c ≡ OutDegree → DegreeFault l)

size-faulty : (l : List ℕ) (c : Refusal) → SizeFault c → Faulty l c
size-faulty l c too_many = (too_many_points, λ e. clash cc)
size-faulty l c size_form = (line_form, λ e. clash cc)

body-blames : (l : List ℕ) (n : ℕ) (body : List ℕ) → n ≤ 200 → l ≡ 38 ∷ (size_field n ++ body) → Blames (Faulty l) (read_line_body n body)
unfolding read_line_body
body-blames l n body few e =
    choose-case (Blames (Faulty l)) (is_line_body n body)
    (λ t. of (read_matrix n n (gather bits_of body)) refl t)
    (λ t. size-faulty l LineForm size_form)
  where
    of : (r : Result (List ℕ)) → read_matrix n n (gather bits_of body) ≡ r → is_line_body n body ≡ true → Blames (Faulty l) r
    of (done f) q t = tt
    of (fault c) q t =
        let w = rows-fault n n (gather bits_of body) q in
        (subst LineFault (sym w.0) out_degree, λ u. record { points = n; few = few; body = body; line_is = e; in_form = t; wrong = w.1 })

line-blames : (l : List ℕ) → Blames (Faulty l) (read_line l)
unfolding read_line
line-blames [] = size-faulty [] LineForm size_form
line-blames (x ∷ s) =
    choose-case (Blames (Faulty (x ∷ s))) (eqb x 38)
    (λ t. blames-then (Faulty (x ∷ s)) (read_count s) (λ p. read_line_body p.0 (drop p.1 s)) (faulty-count (read_count s) (count-blames s)) (λ p e.
    let c = good-done (Counted s) (read_count s) p e (count-good s) in
    body-blames (x ∷ s) p.0 (drop p.1 s) c.0 (ap₂ ◌∷◌ (eqb-true x 38 t) c.1)))
    (λ t. size-faulty (x ∷ s) LineForm size_form)
  where
    faulty-count : (r : Result (ℕ × ℕ)) → Blames SizeFault r → Blames (Faulty (x ∷ s)) r
    faulty-count (done p) b = tt
    faulty-count (fault c) b = size-faulty (x ∷ s) c b

pub line-fault : (l : List ℕ) {c : Refusal} → read_line l ≡ fault c → LineFault c
line-fault l e = (blames-fault (Faulty l) (read_line l) e (line-blames l)).0

-- 15 is the cause where the rows are wrong, and nowhere else
pub degree-fault : (l : List ℕ) → read_line l ≡ fault OutDegree → DegreeFault l
degree-fault l e = (blames-fault (Faulty l) (read_line l) e (line-blames l)).1 refl

pub degree-refused : (l : List ℕ) → DegreeFault l → read_line l ≡ fault OutDegree
unfolding read_line read_line_body
degree-refused l d =
    let n = d.points in
    let size = size_field n in
    ap read_line d.line_is
    ∙ rw (count-back n d.body d.few, drop_at size d.body (length size) refl, d.in_form, rows-wrong n n (gather bits_of d.body) d.wrong)
