-- What a write of one cell changes of a search.
use Rattle.std.proofs.Common.{◌≡◌, ◌∙◌, ℕ, ◌+◌, ◌<◌, ◌⊎◌, inl, inr, ⊎_elim, Bool, true, false, cond, List, [], ◌∷◌, ◌++◌, length, get_or, slice_get, unwrap_or, Option, Some, None, refl, sym, subst, ap, append-nil, arith}
use Rattle.std.proofs.lemmas.Bool.{false≢true}
use Rattle.std.proofs.lemmas.List.{length-append, get_or_append_left}
use Rattle.std.proofs.lemmas.Option.{slice_get-get_or, slice_get_within, get_or_from_slice_get}
use Rattle.std.proofs.lemmas.List.Elements.{Contains-push_cases}
use Rattle.std.proofs.Math.Seq.{get_or-append_seam}
use Rattle.std.proofs.lemmas.Slice.Eq.{bytes_eq-Decides}
use Rattle.std.specs.Str.{bytes_eq}
use Rattle.std.specs.BTreeMap.{get}
use Rattle.std.specs.List.{Contains}
use Rattle.std.specs.List.Sorted.{IsStrictlySortedBy}
use Rattle.spie_base.specs.Order.{sig_cmp}
use Rattle.spie_base.specs.declared.Sig.{Sig}
use Rattle.topology.specs.declared.limits.TheConstants.{ROUTERS_MOST}
use Rattle.reverse_flood.specs.declared.graphs.Node.{Node}
use Rattle.reverse_flood.specs.declared.cells.Cell.{Cell}
use Rattle.reverse_flood.specs.declared.cells.Cell.TheVariants.{Free, Waiting, Unseen, Alone, Changed}
use Rattle.reverse_flood.specs.declared.cells.Search.{Search}
use Rattle.reverse_flood.specs.Rows.{AreRows, cell_of, node_eq}
use Rattle.reverse_flood.specs.Search.{cell_at, is_hit_cell, is_named, is_taken, origins_by, rows_in, IsFine}
use Rattle.reverse_flood.specs.Leads.{Settles}
use Rattle.reverse_flood.proofs.Ascents.{sorted_none, sorted_one}
use Rattle.reverse_flood.proofs.Orders.{same_node, node_laws}

-- the same rows and cells tell the same
pub cell_same : (old new : Search) → new.rows ≡ old.rows → new.cells ≡ old.cells → (n : Node) → cell_at new n ≡ cell_at old n
cell_same old new rows cells n =
    ap (λ m. cell_of Free (get sig_cmp m) new.cells.items n) rows ∙ ap (λ v. cell_of Free (get sig_cmp old.rows) v.items n) cells

-- the rows of a search whose map stays, and with so many cells as before
pub rows_kept : (old new : Search) → new.rows ≡ old.rows → length new.cells.items ≡ length old.cells.items → AreRows (rows_in old) (length old.cells.items) → AreRows (rows_in new) (length new.cells.items)
rows_kept old new rows size are =
    let Fit : ℕ → Type 0 = λ k. AreRows (rows_in new) k in
    let Are : _ → Type 0 = λ m. AreRows (get sig_cmp m) (length old.cells.items) in
    subst Fit (sym size) (subst Are (sym rows) are)

pub same_place : (j k : ℕ) → Changed j ≡ Changed k → j ≡ k
same_place j k e = ap (λ (c : Cell). let f : Cell → ℕ = elim [ Free ↦ 0 | Waiting ↦ 0 | Unseen ↦ 0 | Alone ↦ 0 | Changed p ↦ p ] in f c) e

-- more origins behind those that are kept
slice_get-append : {X : Type 0} (xs ys : List X) (i : ℕ) → i < length xs → slice_get (xs ++ ys) i ≡ slice_get xs i
slice_get-append [] ys i l = let no : ⊥ = omega (arith, l) in absurd no
slice_get-append (x ∷ xs) ys i l =
    let far : i < length ((x ∷ xs) ++ ys) = omega (arith, l, length-append (x ∷ xs) ys) in
    let S : _ → Option _ = λ v. Some v in
    slice_get-get_or ((x ∷ xs) ++ ys) i x far ∙ ap S (get_or_append_left (x ∷ xs) ys x i l) ∙ sym (slice_get-get_or (x ∷ xs) i x l)

pub origins_kept : (changed more : List (List Sig)) (sig : Sig) (cell : Cell) → ((place : ℕ) → cell ≡ Changed place → place < length changed) → origins_by (changed ++ more) sig cell ≡ origins_by changed sig cell
origins_kept changed more sig Free within = refl
origins_kept changed more sig Waiting within = refl
origins_kept changed more sig Unseen within = refl
origins_kept changed more sig Alone within = refl
origins_kept changed more sig (Changed place) within = slice_get-append changed more place (within place refl)

-- ---- a pair is named

pub record IsNamed (node : Node) (old new : Search) : Type 0 where
  pub fine : IsFine new
  pub named : is_named new node ≡ true
  pub kept : (n : Node) → n.router.number < ROUTERS_MOST → is_named old n ≡ true → cell_at new n ≡ cell_at old n
  pub only : (n : Node) → n.router.number < ROUTERS_MOST → is_named new n ≡ true → (is_named old n ≡ true) ⊎ (node ≡ n)

no_place : (place : ℕ) → Waiting ≡ Changed place → ⊥
no_place place e = false≢true (ap (λ (c : Cell). let f : Cell → Bool = elim [ Free ↦ false | Waiting ↦ false | Unseen ↦ false | Alone ↦ false | Changed p ↦ true ] in f c) e)

-- a cell is written
abbrev pub Writes : Node → Cell → Search → Search → Type 0
Writes node cell old new = (n : Node) → n.router.number < ROUTERS_MOST → cell_at new n ≡ cond (node_eq node n) cell (cell_at old n)

-- it is that of the pair, or stays
pub record IsWritten (node : Node) (cell : Cell) (old new : Search) (n : Node) : Type 0 where
  pub cases : ((node ≡ n) × (cell_at new n ≡ cell)) ⊎ ((node_eq node n ≡ false) × (cell_at new n ≡ cell_at old n))

pub written : (node : Node) (cell : Cell) (old new : Search) → Writes node cell old new → (n : Node) → n.router.number < ROUTERS_MOST → IsWritten node cell old new n
written node cell old new writes n few =
    let by : (b : Bool) → node_eq node n ≡ b → IsWritten node cell old new n =
    elim [
      | true ↦ λ e. record { cases = inl (same_node node n e, writes n few ∙ ap (λ b. cond b cell (cell_at old n)) e) }
      | false ↦ λ e. record { cases = inr (e, writes n few ∙ ap (λ b. cond b cell (cell_at old n)) e) }
    ] in
    by (node_eq node n) refl

pub written_here : (node : Node) (cell : Cell) (old new : Search) → Writes node cell old new → node.router.number < ROUTERS_MOST → cell_at new node ≡ cell
written_here node cell old new writes few = writes node few ∙ ap (λ b. cond b cell (cell_at old node)) (node_laws.refl node)

pub name_more : (node : Node) (old new : Search) → IsFine old → new.rows ≡ old.rows → new.changed ≡ old.changed → length new.cells.items ≡ length old.cells.items → node.router.number < ROUTERS_MOST → Writes node Waiting old new → is_named old node ≡ false → IsNamed node old new
name_more node old new fine rows changed size few writes free = record {
  fine = record {
    rows = rows_kept old new rows size fine.rows;
    places = λ n place small e.
        let P : _ → Type 0 = λ v. place < length v.items in
        ⊎_elim
        (λ here. absurd (no_place place (sym here.1 ∙ e)))
        (λ other. subst P (sym changed) (fine.places n place small (sym other.1 ∙ e)))
        (written node Waiting old new writes n small).cases;
    ascend = let P : _ → Type 0 = λ v. (origins : List Sig) → Contains v.items origins → IsStrictlySortedBy sig_cmp origins in subst P (sym changed) fine.ascend;
  };
  named = ap is_taken (written_here node Waiting old new writes few);
  kept = λ n small h. ⊎_elim
      (λ here. let P : Node → Type 0 = λ m. is_named old m ≡ false in absurd (false≢true (sym (subst P here.0 free) ∙ h)))
      (λ other. other.1)
      (written node Waiting old new writes n small).cases;
  only = λ n small h. ⊎_elim
      (λ here. inr here.0)
      (λ other. inl (ap is_taken (sym other.1) ∙ h))
      (written node Waiting old new writes n small).cases;
}

-- ---- a pair is settled

-- by a search that kept more origins first
pub settles : (node : Node) (cell : Cell) (known : Bool) (origins : Option (List Sig)) (more : List (List Sig)) (old mid new : Search) → IsFine old → mid.rows ≡ old.rows → mid.cells ≡ old.cells → mid.changed.items ≡ old.changed.items ++ more → new.rows ≡ mid.rows → new.changed ≡ mid.changed → length new.cells.items ≡ length mid.cells.items
    → node.router.number < ROUTERS_MOST → Writes node cell mid new → is_taken cell ≡ true → is_hit_cell cell ≡ known → origins_by (old.changed.items ++ more) node.sig cell ≡ origins → ((place : ℕ) → cell ≡ Changed place → place < length (old.changed.items ++ more)) → ((list : List Sig) → Contains (old.changed.items ++ more) list → IsStrictlySortedBy sig_cmp list) → Settles node known origins old new
settles node cell known origins more old mid new fine mid_rows mid_cells mid_changed rows changed size few writes taken hit is within ascend =
    let all : new.changed.items ≡ old.changed.items ++ more = ap (λ v. v.items) changed ∙ mid_changed in
    let here = written_here node cell mid new writes few in
    let mid_same = cell_same old mid mid_rows mid_cells in
    let Below : ℕ → List (List Sig) → Type 0 = λ place l. place < length l in
    let Sorted : List (List Sig) → Type 0 = λ l. (list : List Sig) → Contains l list → IsStrictlySortedBy sig_cmp list in
    let mid_size : length new.cells.items ≡ length old.cells.items = size ∙ ap (λ v. length v.items) mid_cells in
    let farther : (place : ℕ) → place < length old.changed.items → place < length (old.changed.items ++ more) = λ place l. omega (arith, l, length-append old.changed.items more) in
    record {
      fine = record {
        rows = rows_kept old new (rows ∙ mid_rows) mid_size fine.rows;
        places = λ n place small e. subst (Below place) (sym all) (⊎_elim
            (λ at. within place (sym at.1 ∙ e))
            (λ other. farther place (fine.places n place small (sym (mid_same n) ∙ sym other.1 ∙ e)))
            (written node cell mid new writes n small).cases);
        ascend = subst Sorted (sym all) ascend;
      };
      rows = rows ∙ mid_rows;
      named = ap is_taken here ∙ taken;
      known = ap is_hit_cell here ∙ hit;
      found = ap (origins_by new.changed.items node.sig) here ∙ ap (λ l. origins_by l node.sig cell) all ∙ is;
      others = λ m small. ⊎_elim
          (λ at. inl at.0)
          (λ other.
          let e : cell_at new m ≡ cell_at old m = other.1 ∙ mid_same m in
          inr (record {
            cell = e;
            found = ap (origins_by new.changed.items m.sig) e ∙ ap (λ l. origins_by l m.sig (cell_at old m)) all ∙ origins_kept old.changed.items more m.sig (cell_at old m) (λ place is_at. fine.places m place small is_at);
          }))
          (written node cell mid new writes m small).cases;
    }

no_change : (place : ℕ) (cell : Cell) → (let f : Cell → Bool = elim [ Free ↦ false | Waiting ↦ false | Unseen ↦ false | Alone ↦ false | Changed p ↦ true ] in f cell) ≡ false → cell ≡ Changed place → ⊥
no_change place cell none e = false≢true (sym none ∙ ap (λ (c : Cell). let f : Cell → Bool = elim [ Free ↦ false | Waiting ↦ false | Unseen ↦ false | Alone ↦ false | Changed p ↦ true ] in f c) e)

pub no_place_unseen : (place : ℕ) → Unseen ≡ Changed place → ⊥
no_place_unseen place e = no_change place Unseen refl e

pub no_place_alone : (place : ℕ) → Alone ≡ Changed place → ⊥
no_place_alone place e = no_change place Alone refl e

-- its own signature is its only origin
pub settles_alone : (node : Node) (origins : List Sig) (old new : Search) → IsFine old → new.rows ≡ old.rows → new.changed ≡ old.changed → length new.cells.items ≡ length old.cells.items → node.router.number < ROUTERS_MOST → Writes node Alone old new → origins ≡ node.sig ∷ [] → Settles node true (Some origins) old new
settles_alone node origins old new fine rows changed size few writes is =
    let Sorted : List (List Sig) → Type 0 = λ l. (list : List Sig) → Contains l list → IsStrictlySortedBy sig_cmp list in
    let O : List Sig → Option (List Sig) = λ l. Some l in
    settles node Alone true (Some origins) [] old old new fine refl refl (sym (append-nil old.changed.items)) rows changed size few writes refl refl (ap O (sym is)) (λ place e. absurd (no_place_alone place e)) (subst Sorted (sym (append-nil old.changed.items)) fine.ascend)

pub settles_unseen : (node : Node) (old new : Search) → IsFine old → new.rows ≡ old.rows → new.changed ≡ old.changed → length new.cells.items ≡ length old.cells.items → node.router.number < ROUTERS_MOST → Writes node Unseen old new → Settles node false None old new
settles_unseen node old new fine rows changed size few writes =
    let Sorted : List (List Sig) → Type 0 = λ l. (list : List Sig) → Contains l list → IsStrictlySortedBy sig_cmp list in
    settles node Unseen false None [] old old new fine refl refl (sym (append-nil old.changed.items)) rows changed size few writes refl refl refl (λ place e. absurd (no_place_unseen place e)) (subst Sorted (sym (append-nil old.changed.items)) fine.ascend)

-- its origins are kept
pub settles_changed : (node : Node) (cell : Cell) (origins : List Sig) (old mid new : Search) → IsFine old → mid.rows ≡ old.rows → mid.cells ≡ old.cells → mid.changed.items ≡ old.changed.items ++ origins ∷ [] → cell ≡ Changed (length old.changed.items) → new.rows ≡ mid.rows → new.changed ≡ mid.changed → length new.cells.items ≡ length mid.cells.items
    → node.router.number < ROUTERS_MOST → Writes node cell mid new → IsStrictlySortedBy sig_cmp origins → Settles node true (Some origins) old new
settles_changed node cell origins old mid new fine mid_rows mid_cells mid_changed is rows changed size few writes ascend =
    let place = length old.changed.items in
    let all = old.changed.items ++ origins ∷ [] in
    let long : length all ≡ place + 1 = length-append old.changed.items (origins ∷ []) in
    let within : place < length all = omega (arith, long) in
    let Put : Cell → Type 0 = λ x. Writes node x mid new in
    let O : List Sig → Option (List Sig) = λ l. Some l in
    settles node (Changed place) true (Some origins) (origins ∷ []) old mid new fine mid_rows mid_cells mid_changed rows changed size few (subst Put is writes) refl refl
    (slice_get-get_or all place origins within ∙ ap O (get_or-append_seam old.changed.items origins [] origins))
    (λ k e. let same : place ≡ k = same_place place k e in omega (arith, within, same))
    (λ list h. ⊎_elim (fine.ascend list) (λ (e : origins ≡ list). let P : List Sig → Type 0 = λ l. IsStrictlySortedBy sig_cmp l in subst P e ascend) (Contains-push_cases old.changed.items origins list h))

-- a list of one signature
pub one_item : (xs : List Sig) (s d : Sig) → length xs ≡ 1 → bytes_eq (get_or xs 0 d).bytes s.bytes ≡ true → xs ≡ s ∷ []
one_item [] s d l e = let no : ⊥ = omega (arith, l) in absurd no
one_item (x ∷ []) s d l e = let S : List ℕ → Sig = λ b. record { bytes = b } in ap (λ b. S b ∷ []) ((bytes_eq-Decides x.bytes s.bytes).0 e)
one_item (x ∷ y ∷ ys) s d l e = let no : ⊥ = omega (arith, l) in absurd no

-- origins ascend
pub found_ascend : (changed : List (List Sig)) (sig : Sig) (cell : Cell) → ((origins : List Sig) → Contains changed origins → IsStrictlySortedBy sig_cmp origins) → IsStrictlySortedBy sig_cmp (unwrap_or (origins_by changed sig cell) [])
found_ascend changed sig Free all = sorted_none sig_cmp
found_ascend changed sig Waiting all = sorted_none sig_cmp
found_ascend changed sig Unseen all = sorted_none sig_cmp
found_ascend changed sig Alone all = sorted_one sig_cmp sig
found_ascend changed sig (Changed place) all = by (slice_get changed place) refl
  where
    by : (o : Option (List Sig)) → slice_get changed place ≡ o → IsStrictlySortedBy sig_cmp (unwrap_or o [])
    by None e = sorted_none sig_cmp
    by (Some list) e = all list (place, slice_get_within changed place list e, get_or_from_slice_get changed place list list e)
