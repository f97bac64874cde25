-- One more line of a share.
use Rattle.std.proofs.Common.{◌≡◌, ℕ, ◌<◌, cond, List, [], ◌∷◌, ◌++◌, length, map, get_or, set, sym, refl, ap, ap₂, ◌∙◌, subst, arith}
use mathlib.Core.Logic.{dite}
use native.Mathlib.Decide.{ℕ_discrete}
use Rattle.std.proofs.lemmas.Bool.{eq-eqb, ne_eqb}
use Rattle.std.proofs.lemmas.Grind.{flat_map-append}
use Rattle.std.proofs.lemmas.List.{length-map, get_or-map, get_or-set_same, get_or-set_other, map-set, append-nil, append_assoc, map-append}
use Rattle.spie_base.specs.declared.Entry.{Entry}
use Rattle.spie_base.specs.declared.PageNo.{PageNo}
use Rattle.spie_base.specs.declared.Sig.{Sig}
use Rattle.page_gate.specs.Held.{PlaneId, PassHeld}
use Rattle.trace_format.specs.declared.Line.{Line}
use Rattle.trace_history.specs.Receipts.{Receipt}
use Rattle.trace_history.specs.Workers.{entry_by}
use Rattle.trace_workers.specs.Records.{hop_of, line_at, lines_at, receipts_by, entries_by}
use Rattle.trace_workers.specs.Jobs.{tables_of, planes_tables, entries_at, entry_at}

-- the pass at the place of a plane belongs to it
pub fits_at : (bs : List PlaneId) (ps : List PassHeld) (r : ℕ) (b : PlaneId) (p : PassHeld) → tables_of ps ≡ planes_tables bs → r < length bs → r < length ps → (get_or ps r p).table ≡ (get_or bs r b).table
fits_at bs ps r b p e small small' = sym (get_or-map (λ (x : PassHeld). x.table) ps r p p.table small') ∙ ap (λ ts. get_or ts r p.table) e ∙ get_or-map (λ (x : PlaneId). x.table) bs r b p.table small

pub same_length : (bs : List PlaneId) (ps : List PassHeld) → tables_of ps ≡ planes_tables bs → length ps ≡ length bs
same_length bs ps e = sym (length-map ps (λ (x : PassHeld). x.table)) ∙ ap length e ∙ length-map bs (λ (x : PlaneId). x.table)

entries_here : (ps : List PassHeld) (r : ℕ) (p : PassHeld) → r < length ps → entries_at ps r ≡ (get_or ps r p).entries
entries_here ps r p small = get_or-map (λ (x : PassHeld). x.entries) ps r p [] small

-- the pass at s has one entry more
pub recorded : (ps : List PassHeld) (s : ℕ) (page : PageNo) (sig : Sig) (p q : PassHeld) → s < length ps → q.entries ≡ (get_or ps s p).entries ++ record { page = page; sig = sig } ∷ []
    → (r : ℕ) → entries_at (set ps s q) r ≡ entries_at ps r ++ entry_at r s page sig
recorded ps s page sig p q small grown r = let es = map (λ (y : PassHeld). y.entries) ps in let e : Entry = record { page = page; sig = sig } in
    let moved : entries_at (set ps s q) r ≡ get_or (set es s (q.entries)) r [] = ap (λ ys. get_or ys r []) (map-set (λ (y : PassHeld). y.entries) ps s q) in
    dite (ℕ_discrete r s)
    (λ same. let here : get_or (set es s (q.entries)) r [] ≡ q.entries = ap (λ j. get_or (set es s (q.entries)) j []) same ∙ get_or-set_same es s (q.entries) [] (subst (λ n. s < n) (sym (length-map ps (λ (y : PassHeld). y.entries))) small) in
    moved ∙ here ∙ grown ∙ ap (λ ys. ys ++ e ∷ []) (sym (entries_here ps s p small) ∙ ap (entries_at ps) (sym same)) ∙ ap (λ b. entries_at ps r ++ cond b (e ∷ []) []) (sym (eq-eqb s r (sym same))))
    (λ other. moved ∙ get_or-set_other es s r (q.entries) [] other ∙ sym (append-nil (entries_at ps r)) ∙ ap (λ b. entries_at ps r ++ cond b (e ∷ []) []) (sym (ne_eqb s r (λ h. other (sym h)))))

-- the entry of one receipt
pub one_entry : (r s : ℕ) (sigs : List Sig) (line : Line) (page : PageNo) (sig : Sig) → s ≡ (hop_of sigs line.what).router → sig ≡ (hop_of sigs line.what).sig
    → entry_at r s page sig ≡ entries_by r (receipts_by sigs (line ∷ []) (page ∷ []))
one_entry r s sigs line page sig e f = ap₂ (λ a b. entry_at r a page b) e f ∙ sym (append-nil (entry_at r (hop_of sigs line.what).router page (hop_of sigs line.what).sig))

pub receipts-append : (sigs : List Sig) (ls more : List Line) (ps pages : List PageNo) → length ps ≡ length ls → receipts_by sigs (ls ++ more) (ps ++ pages) ≡ receipts_by sigs ls ps ++ receipts_by sigs more pages
receipts-append sigs [] more [] pages e = refl
receipts-append sigs [] more (p ∷ ps) pages e = absurd (omega arith)
receipts-append sigs (l ∷ ls) more [] pages e = absurd (omega arith)
receipts-append sigs (l ∷ ls) more (p ∷ ps) pages e = ap (λ (xs : List Receipt). record { hop = hop_of sigs l.what; page = p.number } ∷ xs) (receipts-append sigs ls more ps pages (omega arith))

-- one line more of a share
pub entries_more : (old es es' : List Entry) (r : ℕ) (sigs : List Sig) (ls more : List Line) (ps pages : List PageNo) (line : Line) (page : PageNo) → length ps ≡ length ls → more ≡ ls ++ line ∷ [] → pages ≡ ps ++ page ∷ []
    → es ≡ old ++ entries_by r (receipts_by sigs ls ps) → es' ≡ es ++ entries_by r (receipts_by sigs (line ∷ []) (page ∷ []))
    → es' ≡ old ++ entries_by r (receipts_by sigs more pages)
entries_more old es es' r sigs ls more ps pages line page long e f was now = now ∙ ap (λ ys. ys ++ entries_by r (receipts_by sigs (line ∷ []) (page ∷ []))) was
    ∙ append_assoc old (entries_by r (receipts_by sigs ls ps)) (entries_by r (receipts_by sigs (line ∷ []) (page ∷ [])))
    ∙ ap (λ ys. old ++ ys) (sym (flat_map-append (entry_by r) (receipts_by sigs ls ps) (receipts_by sigs (line ∷ []) (page ∷ []))) ∙ ap (entries_by r) (sym (receipts-append sigs ls (line ∷ []) ps (page ∷ []) long)))
    ∙ ap₂ (λ (xs : List Line) (ys : List PageNo). old ++ entries_by r (receipts_by sigs xs ys)) (sym e) (sym f)

pub lines_more : (lines : List Line) (places more : List ℕ) (place : ℕ) → more ≡ places ++ place ∷ [] → lines_at lines more ≡ lines_at lines places ++ line_at lines place ∷ []
lines_more lines places more place e = ap (lines_at lines) e ∙ map-append (line_at lines) places (place ∷ [])
