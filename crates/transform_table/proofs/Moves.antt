-- One row more in its three chains, and one fewer.
use Rattle.std.proofs.Common.{◌≡◌, ◌≢◌, ℕ, ◌+◌, ◌<◌, ◌≤◌, ◌%◌, List, [], ◌∷◌, ◌++◌, length, Option, Some, None, refl, sym, ap, ◌∙◌, subst, inl, inr, arith}
use Rattle.std.proofs.lemmas.Bool.{cases_eq}
use Rattle.slab.specs.Slab.{Slab, get, slab_len, Updates}
use Rattle.index_rings.specs.Rings.{IsChain, Lacks, Distinct, without, next_of}
use Rattle.index_rings.specs.Orders.{chains_in, first_in, labelled}
use Rattle.index_rings.specs.Walk.{chain_walked}
use Rattle.index_rings.specs.declared.chains.Chains.{Chains}
use Rattle.index_rings.proofs.Runs.{chain_none}
use Rattle.index_rings.proofs.Parts.{labelled_yes, labelled_lacks, labelled_apart, chain_lacks}
use Rattle.index_rings.proofs.Walks.{walked_chain}
use Rattle.indirect_store.proofs.Keys.{keys_more, keys_fewer, holds_more, holds_fewer, Appends, TakesOut}
use Rattle.transform_table.specs.declared.line.Line.{Line}
use Rattle.transform_table.specs.Rows.{order_in}
use Rattle.transform_table.specs.Chained.{page_of, bucket_of, page_at, bucket_at, in_all, AreChained}

pub stands_more : (rows rows' : Slab Line) (all all' buckets buckets' pages pages' : Chains) (order : List ℕ) (i : ℕ) (line : Line)
    → get rows i ≡ None → Updates rows rows' i (Some line) → slab_len rows' ≡ slab_len rows + 1 → line.page.number < chains_in pages
    → Appends all all' 0 i → Appends buckets buckets' (line.key % 1024) i → Appends pages pages' line.page.number i
    → chains_in all' ≡ chains_in all → chains_in buckets' ≡ chains_in buckets → chains_in pages' ≡ chains_in pages
    → AreChained rows all buckets pages order → AreChained rows' all' buckets' pages' (order ++ i ∷ [])
stands_more rows rows' all all' buckets buckets' pages pages' order i line vacant up len room fa fb fp la lb lp was =
    let distinct = was.listed.distinct in let lacks = was.listed.held i vacant in
    record {
      listed = keys_more rows rows' order i line vacant up len was.listed;
      in_one = holds_more all all' in_all in_all order 0 i fa refl (λ x ne. refl) distinct lacks was.in_one;
      in_buckets = holds_more buckets buckets' (bucket_at rows) (bucket_at rows') order (line.key % 1024) i fb (ap bucket_of up.changed) (λ x ne. ap bucket_of (up.others x ne)) distinct lacks was.in_buckets;
      in_pages = holds_more pages pages' (page_at rows) (page_at rows') order line.page.number i fp (ap page_of up.changed) (λ x ne. ap page_of (up.others x ne)) distinct lacks was.in_pages;
      paged = λ x there. subst (λ n. page_at rows' x < n) (sym lp) (elim (cases_eq x i) [
        | inl e ↦ subst (λ p. p < chains_in pages) (sym (ap page_of (ap (get rows') e ∙ up.changed))) room
        | inr ne ↦ subst (λ p. p < chains_in pages) (sym (ap page_of (up.others x ne))) (was.paged x (λ e. there (up.others x ne ∙ e)))
      ]);
      one = la ∙ was.one;
      many = lb ∙ was.many;
    }

pub stands_fewer : (rows rows' : Slab Line) (all all' buckets buckets' pages pages' : Chains) (order : List ℕ) (i : ℕ) (line : Line)
    → get rows i ≡ Some line → Updates rows rows' i None → slab_len rows' + 1 ≡ slab_len rows
    → TakesOut all all' 0 i → TakesOut buckets buckets' (line.key % 1024) i → TakesOut pages pages' line.page.number i
    → chains_in all' ≡ chains_in all → chains_in buckets' ≡ chains_in buckets → chains_in pages' ≡ chains_in pages
    → AreChained rows all buckets pages order → AreChained rows' all' buckets' pages' (without i order)
stands_fewer rows rows' all all' buckets buckets' pages pages' order i line found up len fa fb fp la lb lp was =
    let distinct = was.listed.distinct in
    let there : get rows i ≢ None = λ e. let bad : Some line ≡ None = sym found ∙ e in (cc) in
    let has : Lacks order i → ⊥ = λ l. there (was.listed.free i l) in
    record {
      listed = keys_fewer rows rows' order i there up len was.listed;
      in_one = holds_fewer all all' in_all in_all order 0 i fa refl (λ x ne. refl) distinct has was.in_one;
      in_buckets = holds_fewer buckets buckets' (bucket_at rows) (bucket_at rows') order (line.key % 1024) i fb (ap bucket_of found) (λ x ne. ap bucket_of (up.others x ne)) distinct has was.in_buckets;
      in_pages = holds_fewer pages pages' (page_at rows) (page_at rows') order line.page.number i fp (ap page_of found) (λ x ne. ap page_of (up.others x ne)) distinct has was.in_pages;
      paged = λ x now.
          let ne : x ≢ i = λ e. now (ap (get rows') e ∙ up.changed) in
          subst (λ n. page_at rows' x < n) (sym lp) (subst (λ p. p < chains_in pages) (sym (ap page_of (up.others x ne))) (was.paged x (λ e. now (up.others x ne ∙ e))));
      one = la ∙ was.one;
      many = lb ∙ was.many;
    }

-- the chain of all rows is the whole order
all_labelled : (xs : List ℕ) → labelled in_all 0 xs ≡ xs
all_labelled [] = refl
all_labelled (x ∷ xs) = labelled_yes in_all 0 x xs refl ∙ ap (λ ys. x ∷ ys) (all_labelled xs)

-- no place twice, and no more than so many
abbrev ListsNoMore : ℕ → List ℕ → Type 0
ListsNoMore n xs = Distinct xs × (length xs ≤ n)

walks : (next : ℕ → ℕ) (n : ℕ) (first : Option ℕ) (xs : List ℕ) → ListsNoMore n xs → IsChain next first xs → chain_walked next n first ≡ xs
walks next n None xs h r = sym (chain_none next xs r)
walks next n (Some f) xs h r = walked_chain next (Some f) f xs n h.0 r (λ g e. let same : f ≡ g = cc in same) h.1

pub order_is : (rows : Slab Line) (all buckets pages : Chains) (order : List ℕ) → AreChained rows all buckets pages order → order_in rows all ≡ order
order_is rows all buckets pages order s =
    let next = next_of all.rings.links.items in
    walks next (slab_len rows) (first_in all 0) order (s.listed.distinct, omega (arith, s.listed.count)) (subst (λ ys. IsChain next (first_in all 0) ys) (all_labelled order) (s.in_one.chains.parts 0))

-- the first place of a page's chain has a row, and of that page
pub first_is : (rows : Slab Line) (all buckets pages : Chains) (order : List ℕ) (page place : ℕ) → AreChained rows all buckets pages order → first_in pages page ≡ Some place → (Lacks order place → ⊥) × (page_at rows place ≡ page)
first_is rows all buckets pages order page place s e =
    let next = next_of pages.rings.links.items in
    let r : IsChain next (Some place) (labelled (page_at rows) page order) = subst (λ o. IsChain next o (labelled (page_at rows) page order)) e (s.in_pages.chains.parts page) in (
      λ l. chain_lacks next place (labelled (page_at rows) page order) (labelled_lacks (page_at rows) page place order l) r,
      elim (cases_eq (page_at rows place) page) [
        | inl y ↦ y
        | inr ne ↦ absurd (chain_lacks next place (labelled (page_at rows) page order) (labelled_apart (page_at rows) page place order ne) r)
      ],
    )

-- a page whose chain is empty has no row
pub none_of_page : (rows : Slab Line) (all buckets pages : Chains) (order : List ℕ) (page : ℕ) → AreChained rows all buckets pages order → first_in pages page ≡ None → labelled (page_at rows) page order ≡ []
none_of_page rows all buckets pages order page s e =
    let next = next_of pages.rings.links.items in
    chain_none next (labelled (page_at rows) page order) (subst (λ o. IsChain next o (labelled (page_at rows) page order)) e (s.in_pages.chains.parts page))
