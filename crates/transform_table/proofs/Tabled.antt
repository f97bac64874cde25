-- A table with more room, with one row more and with one fewer.
use Rattle.std.proofs.Common.{◌≡◌, ◌≢◌, ℕ, ◌+◌, ◌-◌, ◌%◌, List, [], ◌∷◌, ◌++◌, length, Option, Some, None, Result, Ok, Err, OnErr, sym, ap, ◌∙◌, subst, arith}
use Rattle.std.specs.Prelude.{filter_map, map}
use Rattle.slab.specs.Slab.{Slab, get, Updates}
use Rattle.index_rings.specs.Rings.{Lacks, without}
use Rattle.index_rings.specs.Orders.{first_in, labelled}
use Rattle.index_rings.specs.declared.chains.Chains.{Chains}
use Rattle.index_rings.proofs.Filed.{length_without}
use Rattle.spie_base.specs.declared.types.PageNo.{PageNo}
use Rattle.indirect_store.specs.Held.{uses_at, sig_at}
use Rattle.indirect_store.specs.declared.held.Held.{Held}
use Rattle.packet_signature.specs.declared.rows.Row.{Row}
use Rattle.transform_table.specs.declared.line.Line.{Line}
use Rattle.transform_table.specs.Tables.{with_key, rows_of_page, without_page}
use Rattle.transform_table.specs.Rows.{pair_of, pair_at, pairs_in, is_id, one_if, AreHeld}
use Rattle.transform_table.specs.Chained.{AreChained, IsTable, page_at, bucket_at}
use Rattle.transform_table.proofs.Moves.{order_is, first_is, none_of_page}
use Rattle.transform_table.proofs.Counted.{AreCounted, are_held, pairs_more, counted_more, pairs_fewer, counted_fewer, page_fewer, all_shown, page_part, page_none, key_part}

pub on_err : {T E : Type 0} (r : Result T E) (P : Type 0) → P → OnErr r P
on_err (Ok x) P p = tt
on_err (Err e) P p = p

module _ (rows : Slab Line) (all buckets pages : Chains) (olds : List (Option Held)) (was : IsTable rows all buckets pages olds) where
  -- what the table shows, over the order of its rows
  pub shown_is : pairs_in rows all olds ≡ filter_map (pair_at rows olds) was.order
  shown_is = ap (filter_map (pair_at rows olds)) (order_is rows all buckets pages was.order was.stands)

  pub ids_held : AreHeld rows olds
  ids_held = are_held rows was.order olds was.stands.listed was.counted

  -- the first row of a page
  pub first_has : (page place : ℕ) → first_in pages page ≡ Some place → Lacks was.order place → ⊥
  first_has page place e = (first_is rows all buckets pages was.order page place was.stands e).0

  pub page_is_empty : (page : ℕ) → first_in pages page ≡ None → without_page page (pairs_in rows all olds) ≡ pairs_in rows all olds
  page_is_empty page e =
      ap (without_page page) shown_is ∙ page_none rows was.order olds page (none_of_page rows all buckets pages was.order page was.stands e) ∙ sym shown_is

  -- the rows of a page stand in its chain, and those of a key in its bucket's
  pub page_chain : (page : ℕ) (places : List ℕ) → places ≡ labelled (page_at rows) page was.order → map (λ pair. pair.1) (filter_map (pair_at rows olds) places) ≡ rows_of_page page (pairs_in rows all olds)
  page_chain page places e =
      ap (λ l. map (λ pair. pair.1) (filter_map (pair_at rows olds) l)) e ∙ ap (map (λ (pair : PageNo × Row). pair.1)) (sym (page_part rows was.order olds page)) ∙ sym (ap (rows_of_page page) shown_is)

  pub no_page_chain : (page : ℕ) → first_in pages page ≡ None → [] ≡ rows_of_page page (pairs_in rows all olds)
  no_page_chain page e = page_chain page [] (sym (none_of_page rows all buckets pages was.order page was.stands e))

  pub key_chain : (key : ℕ) (places : List ℕ) → places ≡ labelled (bucket_at rows) (key % 1024) was.order → with_key key (filter_map (pair_at rows olds) places) ≡ with_key key (pairs_in rows all olds)
  key_chain key places e = ap (λ l. with_key key (filter_map (pair_at rows olds) l)) e ∙ key_part rows was.order olds key ∙ sym (ap (with_key key) shown_is)

  module _ (rows' : Slab Line) (all' buckets' pages' : Chains) where
    -- more room
    module _ (more : ℕ) (e : rows' ≡ record rows { capacity = more }) (keeps : (order : List ℕ) → AreChained rows all buckets pages order → AreChained rows' all' buckets' pages' order) where
      pub table_roomier : IsTable rows' all' buckets' pages' olds
      table_roomier = record {
        order = was.order;
        stands = keeps was.order was.stands;
        counted = subst (λ r. AreCounted r was.order olds) (sym e) was.counted;
      }

      pub shown_roomier : pairs_in rows' all' olds ≡ pairs_in rows all olds
      shown_roomier =
          ap (filter_map (pair_at rows' olds)) (order_is rows' all' buckets' pages' was.order (keeps was.order was.stands))
          ∙ ap (λ (r : Slab Line). filter_map (pair_at r olds) was.order) e ∙ sym shown_is

    -- one row more
    module _ (olds' : List (Option Held)) (i : ℕ) (line : Line) (vacant : get rows i ≡ None) (up : Updates rows rows' i (Some line))
        (stands : (order : List ℕ) → AreChained rows all buckets pages order → AreChained rows' all' buckets' pages' (order ++ i ∷ []))
        (uses : (id : ℕ) → uses_at olds' id ≡ uses_at olds id + one_if (is_id id line.kept)) (others : (id : ℕ) → uses_at olds id ≢ 0 → sig_at olds' id ≡ sig_at olds id) where
      pub table_more : IsTable rows' all' buckets' pages' olds'
      table_more = record {
        order = was.order ++ i ∷ [];
        stands = stands was.order was.stands;
        counted = counted_more rows rows' was.order olds olds' i line was.stands.listed was.counted vacant up uses;
      }

      pub shown_more : pairs_in rows' all' olds' ≡ pairs_in rows all olds ++ pair_of olds' line ∷ []
      shown_more =
          ap (filter_map (pair_at rows' olds')) (order_is rows' all' buckets' pages' (was.order ++ i ∷ []) (stands was.order was.stands))
          ∙ pairs_more rows rows' was.order olds olds' i line was.stands.listed was.counted vacant up others ∙ ap (λ l. l ++ pair_of olds' line ∷ []) (sym shown_is)

    -- the first row of a page fewer
    module _ (olds' : List (Option Held)) (page i : ℕ) (line : Line) (first : first_in pages page ≡ Some i) (found : get rows i ≡ Some line) (up : Updates rows rows' i None)
        (stands : (order : List ℕ) → AreChained rows all buckets pages order → AreChained rows' all' buckets' pages' (without i order))
        (uses : (id : ℕ) → uses_at olds' id ≡ uses_at olds id - one_if (is_id id line.kept)) (others : (id : ℕ) → uses_at olds' id ≢ 0 → sig_at olds' id ≡ sig_at olds id) where
      pub table_fewer : IsTable rows' all' buckets' pages' olds'
      table_fewer = record {
        order = without i was.order;
        stands = stands was.order was.stands;
        counted = counted_fewer rows rows' was.order olds olds' i line was.stands.listed.distinct (first_has page i first) was.counted found up uses;
      }

      left_is : pairs_in rows' all' olds' ≡ filter_map (pair_at rows olds) (without i was.order)
      unfolding table_fewer
      left_is =
          ap (filter_map (pair_at rows' olds')) (order_is rows' all' buckets' pages' (without i was.order) (stands was.order was.stands))
          ∙ pairs_fewer rows rows' was.order olds olds' i (stands was.order was.stands).listed.distinct table_fewer.counted up others

      pub others_fewer : without_page page (pairs_in rows' all' olds') ≡ without_page page (pairs_in rows all olds)
      others_fewer =
          ap (without_page page) left_is ∙ page_fewer rows was.order olds i page (first_is rows all buckets pages was.order page i was.stands first).1 ∙ sym (ap (without_page page) shown_is)

      pub shown_fewer : length (pairs_in rows' all' olds') + 1 ≡ length (pairs_in rows all olds)
      shown_fewer =
          let order' = (stands was.order was.stands).listed in
          omega (
            arith,
            ap (λ (l : List (PageNo × Row)). length l) (ap (filter_map (pair_at rows' olds')) (order_is rows' all' buckets' pages' (without i was.order) (stands was.order was.stands))),
            all_shown rows' (without i was.order) olds' order',
            ap (λ (l : List (PageNo × Row)). length l) shown_is,
            all_shown rows was.order olds was.stands.listed,
            length_without i was.order was.stands.listed.distinct (first_has page i first),
          )
