-- A page, one code after another: the codes that were gone past, and what is still to come.
use mathlib.Core.Path.{◌≡◌, refl, ap, ap₂, sym, ◌∙◌}
use mathlib.Core.List.{List, [], ◌∷◌, ◌++◌, append_assoc, append-nil}
use Rattle.std.specs.Prelude.{Some, None, Option as Number}
use Prim.Native.Nat.{ℕ, suc, ◌+◌, ◌-◌, ◌≤◌, ◌<◌}
use native.Mathlib.Nat.{sub-zero}
use native.Mathlib.Omega.{arith}
use lib.ListN.{length, take, drop, length-append}
use Rattle.lists.proofs.Members.{gather_append}
use Rattle.patterns.specs.System.{System, weight}
use Rattle.patterns.specs.Written.{written}
use Rattle.patterns.specs.Page.{successors, page_bytes}
use Rattle.patterns.specs.Replies.{page_is}
use Rattle.memory.specs.Memory.{Holds, HeldSystem}
use Rattle.memory.proofs.Parts.{held-points, held-unique}
use Rattle.system_theory.specs.Step.{step}
use Rattle.system_theory.proofs.Step.{step_keeps}
use Rattle.system_theory.proofs.Successors.{successors-step, successors-last, successors-none}
use Rattle.form_theory.proofs.PageBytes.{page-fits}
use Rattle.stepping.specs.HeldSteps.{HeldNext, SteppedTo}
use Rattle.stepping.proofs.Following.{next-canonical, step-over, next-again, next-is}
use Rattle.written.specs.Putting.{Placed}
use Rattle.written.proofs.Placing.{placed-start, placed-then}
use Rattle.writing.specs.Writable.{SystemRoom}
use Rattle.writing.proofs.CanonicalHeld.{canonical-held}
use Rattle.writing.proofs.Placements.{placed_same}
use Rattle.paging.specs.HeldPages.{HeldPage, PageRoom, PagePut}

-- a system in memory that the writer can write
pub next_small : {sizes : List ℕ} {k : ℕ} {trees : List ℕ} (h : HeldNext sizes k trees) → weight h.system ≤ 200
next_small h = omega (arith, held-points h.holds, h.small)

abbrev pub next_written : {sizes : List ℕ} {k : ℕ} {trees : List ℕ} → HeldNext sizes k trees → HeldSystem (take k sizes) trees
next_written h = canonical-held h.holds h.canonical_is (next_small h)

-- of the codes after S those of `made` were gone past, i of them; memory holds the last, or S
pub record Paged (S : System) (wanted : ℕ) (sizes : List ℕ) (k : ℕ) (trees : List ℕ) (i : ℕ) (made : List System) : Type 0 where
  pub held : HeldNext sizes k trees
  pub count : length made ≡ i
  pub within : i ≤ wanted
  pub page : successors wanted S ≡ made ++ successors (wanted - i) held.system

pub paged-start : {sizes : List ℕ} {m : ℕ} {trees : List ℕ} (wanted : ℕ) → HeldNext sizes m trees → (S : System) → Holds S (take m sizes) trees
    → Paged S wanted sizes m trees 0 []
paged-start wanted h S i =
    record {
      held = h;
      count = refl;
      within = omega arith;
      page = rw sub-zero (ap (successors wanted) (held-unique i h.holds));
    }

-- what was gone past lies within the page
pub paged-within : {S : System} {wanted : ℕ} {sizes : List ℕ} {k : ℕ} {trees : List ℕ} {i : ℕ} {made : List System} → Paged S wanted sizes k trees i made
    → length (page_bytes made) ≤ length (page_bytes (successors wanted S))
paged-within {wanted = wanted} {i = i} {made = made} p =
    let rest = successors (wanted - i) p.held.system in
    omega (
      arith,
      ap (λ l. length (page_bytes l)) p.page,
      ap length (gather_append written made rest),
      length-append (page_bytes made) (page_bytes rest),
    )

-- one code more
pub record Advanced (S : System) (wanted i : ℕ) (made : List System) (sizes : List ℕ) (k : ℕ) (trees : List ℕ) : Type 0 where
  pub held : HeldNext sizes k trees
  pub paged : Paged S wanted sizes k trees (i + 1) (made ++ (held.system ∷ []))
  pub bytes : page_bytes (made ++ (held.system ∷ [])) ≡ page_bytes made ++ written held.system
  pub fits : length (page_bytes made) + length (written held.system) ≤ length (page_bytes (successors wanted S))

module _ {S : System} {wanted : ℕ} {sizes : List ℕ} {k : ℕ} {trees : List ℕ} {i : ℕ} {made : List System} (p : Paged S wanted sizes k trees i made) where
  -- all that are wanted
  pub paged-all : wanted ≤ i → successors wanted S ≡ made
  paged-all h =
      let z : wanted - i ≡ 0 = omega arith in
      p.page ∙ ap (made ++◌) (rw z (successors-none p.held.system)) ∙ append-nil made

  module _ (r : Number ℕ) (sizes' trees' : List ℕ) (f : (T : System) → Holds T (take k sizes) trees → SteppedTo (step T) r sizes' trees') where
    -- all that there are
    pub paged-last : r ≡ None → successors wanted S ≡ made
    paged-last e =
        let h = p.held in
        p.page
        ∙ ap (made ++◌) (successors-last h.system h.canonical_is (wanted - i) (step-over step r sizes' trees' f e h.system h.holds))
        ∙ append-nil made

    module _ (j : ℕ) (e : r ≡ Some j) (same : length sizes' ≡ length sizes) (more : i < wanted) where
      abbrev next : HeldNext sizes' j trees'
      next = next-again step_keeps p.held r sizes' trees' f j e same

      page-next : successors wanted S ≡ (made ++ (next.system ∷ [])) ++ successors (wanted - (i + 1)) next.system
      page-next =
          let h = p.held in
          let left : wanted - i ≡ suc (wanted - (i + 1)) = omega arith in
          p.page
          ∙ ap (made ++◌) (rw left (successors-step h.system h.canonical_is (wanted - (i + 1)) next.system (next-is step_keeps h r sizes' trees' f j e same)))
          ∙ sym (append_assoc made (next.system ∷ []) (successors (wanted - (i + 1)) next.system))

      paged-more : Paged S wanted sizes' j trees' (i + 1) (made ++ (next.system ∷ []))
      paged-more =
          record {
            held = next;
            count = omega (arith, length-append made (next.system ∷ []), p.count);
            within = omega arith;
            page = page-next;
          }

      bytes_next : page_bytes (made ++ (next.system ∷ [])) ≡ page_bytes made ++ written next.system
      bytes_next = gather_append written made (next.system ∷ []) ∙ ap (page_bytes made ++◌) (append-nil (written next.system))

      pub paged-next : Advanced S wanted i made sizes' j trees'
      paged-next =
          record {
            held = next;
            paged = paged-more;
            bytes = bytes_next;
            fits = omega (arith, ap length bytes_next, length-append (page_bytes made) (written next.system), paged-within paged-more);
          }

-- The page measured.
pub record Measured (S : System) (wanted : ℕ) (sizes : List ℕ) (k : ℕ) (trees : List ℕ) (bytes i : ℕ) : Type 0 where
  pub made : List System
  pub paged : Paged S wanted sizes k trees i made
  pub total : bytes ≡ length (page_bytes made)

module _ {sizes : List ℕ} {m : ℕ} {trees : List ℕ} {wanted : ℕ} (w : HeldPage sizes m trees wanted) where
  pub measured-start : (S : System) → Holds S (take m sizes) trees → Measured S wanted sizes m trees 0 0
  measured-start S i = record { made = []; paged = paged-start wanted w.held S i; total = refl }

  -- a page takes at most a million bytes
  pub page-small : (S : System) → Holds S (take m sizes) trees → length (page_bytes (successors wanted S)) ≤ 1000000
  page-small S i =
      let h = w.held in
      let c = next-canonical h S i in
      omega (arith, page-fits wanted S c (omega (arith, held-points i, h.small)), w.few)

module _ {S : System} {wanted : ℕ} {sizes : List ℕ} {k : ℕ} {trees : List ℕ} {bytes i : ℕ} (w : Measured S wanted sizes k trees bytes i) where
  -- it is what was gone past
  pub measured-all : successors wanted S ≡ w.made → bytes ≡ length (page_bytes (successors wanted S))
  measured-all e = w.total ∙ ap (λ l. length (page_bytes l)) (sym e)

  module _ {sizes' : List ℕ} {j : ℕ} {trees' : List ℕ} (a : Advanced S wanted i w.made sizes' j trees') {n : ℕ} (e : n ≡ length (written a.held.system)) where
    pub measured-next : Measured S wanted sizes' j trees' (bytes + n) (i + 1)
    measured-next =
        record {
          made = w.made ++ (a.held.system ∷ []);
          paged = a.paged;
          total = omega (arith, w.total, ap length a.bytes, length-append (page_bytes w.made) (written a.held.system));
        }

    pub measured-fits : bytes + n ≤ length (page_bytes (successors wanted S))
    measured-fits = omega (arith, w.total, a.fits)

-- The page written: what stands in the output so far.
pub record Writing (S : System) (wanted : ℕ) (before sizes : List ℕ) (k : ℕ) (trees out : List ℕ) (at i : ℕ) : Type 0 where
  pub made : List System
  pub paged : Paged S wanted sizes k trees i made
  pub had : Placed (page_bytes made) 0 before at out
  pub room : length (page_bytes (successors wanted S)) ≤ length before

pub writing_start : {sizes : List ℕ} {m : ℕ} {trees : List ℕ} {wanted : ℕ} {out : List ℕ} → PageRoom sizes m trees wanted out
    → (S : System) → Holds S (take m sizes) trees → Writing S wanted out sizes m trees out 0 0
writing_start {wanted = wanted} {out = out} w S i =
    record {
      made = [];
      paged = paged-start wanted w.held S i;
      had = placed-start 0 out;
      room = rw (held-unique i w.held.holds) w.room;
    }

module _ {S : System} {wanted : ℕ} {before sizes : List ℕ} {k : ℕ} {trees out : List ℕ} {at i : ℕ} (w : Writing S wanted before sizes k trees out at i) where
  had-fits : 0 + length (page_bytes w.made) ≤ length before
  had-fits = omega (arith, w.room, paged-within w.paged)

  pub writing-same : length out ≡ length before
  writing-same = placed_same had-fits w.had

  -- the page is what was written
  pub writing-put : {codes : ℕ} → codes ≡ i → successors wanted S ≡ w.made → PagePut (successors wanted S) before (page_is codes at) out
  writing-put c e =
      let page = successors wanted S in
      let z : 0 + length (page_bytes page) ≡ length (page_bytes page) = omega arith in
      let had : Placed (page_bytes page) 0 before at out = rw e w.had in
      record {
        reply = ap₂ page_is (c ∙ sym w.paged.count ∙ ap length (sym e)) (had.end ∙ z);
        output = had.output ∙ ap (λ n. page_bytes page ++ drop n before) z;
      }

  module _ {sizes' : List ℕ} {j : ℕ} {trees' : List ℕ} (a : Advanced S wanted i w.made sizes' j trees') where
    -- room for the next code
    pub writing-room : SystemRoom (take j sizes') trees' out at
    writing-room = record { held = next_written a.held; room = omega (arith, w.had.end, a.fits, w.room, writing-same) }

    pub writing-next : {end : ℕ} {after : List ℕ} → Placed (written a.held.system) at out end after → Writing S wanted before sizes' j trees' after end (i + 1)
    writing-next q =
        record {
          made = w.made ++ (a.held.system ∷ []);
          paged = a.paged;
          had = rw a.bytes (placed-then had-fits w.had q);
          room = w.room;
        }
