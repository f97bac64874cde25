-- What is spelled so is read.
use Rattle.std.proofs.Common.{ℕ, ◌≡◌, ◌^◌, ◌≤◌, ◌<◌, List, length, refl, ap, arith, sym, ◌∙◌, Result, Ok, Err, Bool, true, false, nat_lt, lit<, ◌==◌}
use Rattle.std.proofs.lemmas.Bool.Decides.{nat_tests}
use Rattle.std.specs.Fmt.{decimal}
use Rattle.std.specs.declared.option.Option.{Option}
use Rattle.std.specs.declared.option.Option.TheVariants.{None, Some}
use Rattle.spie_base.specs.Shapes.{IsShape}
use Rattle.spie_base.specs.declared.types.PageNo.{PageNo}
use Rattle.spie_base.specs.declared.types.PageShape.{PageShape}
use Rattle.spie_base.specs.declared.types.TheConstants.{K_MOST, N_LEAST, N_MOST}
use Rattle.topology.specs.declared.limits.TheConstants.{ROUTERS_MOST}
use Rattle.reverse_flood.specs.declared.graphs.Node.{Node}
use Rattle.reverse_flood.specs.declared.graphs.Edge.{Edge}
use Rattle.evidence_text.proofs.FieldsAgain.{number_again, below_again, word64_again, words_again, kind_again, data_again, place_again, flag_again, pair_again}
use Rattle.evidence_text.proofs.Wording.{word_again, early_counted}
use Rattle.evidence_text.specs.Before.{Known, bounds_in}
use Rattle.evidence_text.specs.Reading.{version_rest, routers_rest, link_fields, link_rest, pair_rest, shape_fields, router_fields, router_rest, page_fields, page_rest, row_fields, row_rest, node_fields, node_rest, edge_fields, edge_rest, end_rest, early_why, accept, version_line, routers_line, link_line, start_line, router_line, page_line, row_line, node_line, edge_line, unknown_line, clear_line, end_line, line_by, by_word, by_fields}
use Rattle.evidence_text.specs.Said.{Said, VersionLine, RoutersLine, LinkLine, StartLine, RouterLine, PageLine, RowLine, NodeLine, EdgeLine, UnknownLine, ClearLine, EndLine, EarlyLine}
use Rattle.evidence_text.specs.Spelling.{Spells, IsRouter, IsPair, IsPlace, IsFormed, IsEarly, AreWords, word_said, rest_of, fields_of, pair, arity, are_early, word64_text}
use Rattle.evidence_text.specs.declared.certificates.Link.{Link}
use Rattle.evidence_text.specs.declared.certificates.Named.{Named}
use Rattle.evidence_text.specs.declared.refused.CheckWhy.{CheckWhy}
use Rattle.evidence_text.specs.declared.refused.CheckWhy.TheVariants as why
use Rattle.evidence_text.specs.declared.words.Word.{Word}
use Rattle.evidence_text.specs.declared.words.Word.TheVariants as word

-- no more routers than there may be
abbrev pub IsFew : Option ℕ → Type 0
IsFew None = Unit {0}
IsFew (Some count) = count ≤ ROUTERS_MOST

-- ---- before it is known how many routers there are

early_order : (w : Word) (rest : List (List ℕ)) → are_early w rest ≡ true → early_why w rest ≡ why.Order
unfolding early_why
early_order w rest e =
    let c = early_counted w rest e in
    let t : (length rest == arity w) ≡ true = grind (arith, nat_tests) in
    rw (t, e) refl

no_line : (x y : Result Known CheckWhy) → false ≡ true → x ≡ y
no_line x y e = absurd (cc)

early_again : (known : Known) (w : Word) (rest : List (List ℕ)) → IsEarly (bounds_in known) w → are_early w rest ≡ true → line_by known w rest ≡ Err why.Order
unfolding line_by link_line start_line router_line page_line node_line edge_line unknown_line clear_line
early_again known word.Link rest none e = rw (none, early_order word.Link rest e) refl
early_again known word.Start rest none e = rw (none, early_order word.Start rest e) refl
early_again known word.Router rest none e = rw (none, early_order word.Router rest e) refl
early_again known word.Page rest none e = rw (none, early_order word.Page rest e) refl
early_again known word.Node rest none e = rw (none, early_order word.Node rest e) refl
early_again known word.Edge rest none e = rw (none, early_order word.Edge rest e) refl
early_again known word.Unknown rest none e = rw (none, early_order word.Unknown rest e) refl
early_again known word.Clear rest none e = rw (none, early_order word.Clear rest e) refl
early_again known word.Version rest none e = no_line _ _ e
early_again known word.Routers rest none e = no_line _ _ e
early_again known word.Row rest none e = no_line _ _ e
early_again known word.End rest none e = no_line _ _ e

-- ---- each kind of line

few : (count : ℕ) → count ≤ ROUTERS_MOST → count ≤ 2 ^ 32
few count h = omega (arith, h)

link_again : (known : Known) (c : Option ℕ) (l : Link) → IsFew c → IsRouter c l.low.number → IsRouter c l.high.number → l.low.number < l.high.number → link_line known c (rest_of (LinkLine l)) ≡ accept known (LinkLine l)
unfolding link_line link_rest link_fields
link_again known None l f p q up = absurd p
link_again known (Some count) l f p q up =
    let t : nat_lt l.low.number l.high.number ≡ true = grind (arith, nat_tests) in
    rw (below_again count l.low.number (few count f) p, below_again count l.high.number (few count f) q, t) refl

start_again : (known : Known) (c : Option ℕ) (n : Node) → IsFew c → IsPair c n → start_line known c (pair n) ≡ accept known (StartLine n)
unfolding start_line pair_rest
start_again known None n f h = absurd h.0
start_again known (Some count) n f h = rw (pair_again count n (few count f) h.0 h.1) refl

unknown_again : (known : Known) (c : Option ℕ) (n : Node) → IsFew c → IsPair c n → unknown_line known c (pair n) ≡ accept known (UnknownLine n)
unfolding unknown_line pair_rest
unknown_again known None n f h = absurd h.0
unknown_again known (Some count) n f h = rw (pair_again count n (few count f) h.0 h.1) refl

clear_again : (known : Known) (c : Option ℕ) (n : Node) → IsFew c → IsPair c n → clear_line known c (pair n) ≡ accept known (ClearLine n)
unfolding clear_line pair_rest
clear_again known None n f h = absurd h.0
clear_again known (Some count) n f h = rw (pair_again count n (few count f) h.0 h.1) refl

shape_again : (count : ℕ) (s : PageShape) → count ≤ ROUTERS_MOST → s.router.number < count → IsShape s → s.base < 2 ^ 64 → shape_fields count (decimal s.router.number) (decimal s.k) (decimal s.n) (word64_text s.base) ≡ Ok s
unfolding shape_fields
shape_again count s f known h base =
    rw (below_again count s.router.number (few count f) known, number_again 1 K_MOST s.k (lit< tt) h.k_least h.k_most, number_again N_LEAST N_MOST s.n (lit< tt) h.n_least h.n_most, word64_again s.base base) refl

router_again : (known : Known) (c : Option ℕ) (s : PageShape) (missing : Bool) → IsFew c → IsRouter c s.router.number → IsShape s → s.base < 2 ^ 64 → router_line known c (rest_of (RouterLine s missing)) ≡ accept known (RouterLine s missing)
unfolding router_line router_rest router_fields
router_again known None s missing f p h base = absurd p
router_again known (Some count) s missing f p h base = rw (shape_again count s f p h base, flag_again missing) refl

page_again : (known : Known) (c : Option ℕ) (page : PageNo) (words : List ℕ) → page.number < 2 ^ 32 → AreWords c words → page_line known c (rest_of (PageLine page words)) ≡ accept known (PageLine page words)
unfolding page_line page_rest page_fields
page_again known None page words small h = absurd h
page_again known (Some n) page words small h = rw (number_again 0 4294967295 page.number (lit< tt) (omega arith) (omega (arith, small)), words_again n words h.0 h.1) refl

node_again : (known : Known) (c : Option ℕ) (x : Named) → IsFew c → IsPair c x.node → IsPlace x.from → node_line known c (rest_of (NodeLine x)) ≡ accept known (NodeLine x)
unfolding node_line node_rest node_fields
node_again known None x f h p = absurd h.0
node_again known (Some count) x f h p = rw (pair_again count x.node (few count f) h.0 h.1, place_again x.from p) refl

edge_again : (known : Known) (c : Option ℕ) (e : Edge) → IsFew c → IsPair c e.down → IsPair c e.up → edge_line known c (rest_of (EdgeLine e)) ≡ accept known (EdgeLine e)
unfolding edge_line edge_rest edge_fields
edge_again known None e f h g = absurd h.0
edge_again known (Some count) e f h g = rw (pair_again count e.down (few count f) h.0 h.1, pair_again count e.up (few count f) g.0 g.1) refl

-- ---- a line

never_stands : (known : Known) (w : Word) (rest : List (List ℕ)) → accept known (EarlyLine w rest) ≡ Err why.Order
unfolding accept
never_stands known w rest = refl

said_again : (known : Known) (said : Said) → IsFew known.count → IsFormed (bounds_in known) said → line_by known (word_said said) (rest_of said) ≡ accept known said
unfolding line_by version_line version_rest routers_line routers_rest row_line row_rest row_fields end_line end_rest
said_again known VersionLine f h = refl
said_again known (RoutersLine count) f h = rw (number_again 1 ROUTERS_MOST count (lit< tt) h.0 h.1) refl
said_again known (LinkLine l) f h = link_again known known.count l f h.0 h.1 h.2
said_again known (StartLine n) f h = start_again known known.count n f h
said_again known (RouterLine s missing) f h = router_again known known.count s missing f h.0 h.1 h.2
said_again known (PageLine page words) f h = page_again known known.n page words h.0 h.1
said_again known (RowLine row) f h = rw (word64_again row.key h.0, kind_again row.kind, data_again row.kind row.old h.1) refl
said_again known (NodeLine x) f h = node_again known known.count x f h.0 h.1
said_again known (EdgeLine e) f h = edge_again known known.count e f h.0 h.1
said_again known (UnknownLine n) f h = unknown_again known known.count n f h
said_again known (ClearLine n) f h = clear_again known known.count n f h
said_again known EndLine f h = refl
said_again known (EarlyLine w rest) f h = early_again known w rest h.0 h.1 ∙ sym (never_stands known w rest)

-- a line that says something is taken where it may stand
pub spelled_reads : (known : Known) (said : Said) (fields : List (List ℕ)) → IsFew known.count → Spells (bounds_in known) said fields → by_fields known fields ≡ accept known said
spelled_reads known said fields f s =
    let by : by_fields known (fields_of said) ≡ line_by known (word_said said) (rest_of said) = ap (λ o. by_word known o (rest_of said)) (word_again (word_said said)) in
    ap (by_fields known) s.are ∙ by ∙ said_again known said f s.formed
