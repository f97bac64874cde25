-- No field of an item's line has a space.
use Rattle.std.proofs.Common.{◌≡◌, ℕ, List, true, refl}
use Rattle.std.specs.Fmt.{decimal}
use Rattle.report_text.specs.declared.items.Item.{Item}
use Rattle.report_text.specs.declared.items.Item.TheVariants.{Head, Entered, Opened, Archived, Seen, NotSeen, Unknown, Tick, Closed, Left, Query, Pages, NodeLine, EdgeLine, UnknownLine, Answer, End}
use Rattle.report_text.specs.Laws.{HasNoSpaces, IsWritable, IsCount}
use Rattle.report_text.specs.Report.{IsPrintable}
use Rattle.report_text.proofs.Pieces.{Each, lacks}
use Rattle.report_text.proofs.Numbers.{space, lacks-decimal}
use Rattle.report_text.proofs.PageFields.{lacks-range}
use Rattle.report_text.proofs.PairFields.{lacks-name, lacks-hex}
use Rattle.report_text.proofs.Lists.{lacks-pages, lacks-bads}
use Rattle.report_text.proofs.ItemFields.{front_of, fields_of}

pub front_solid : (x : Item) → IsWritable x → lacks 32 (front_of x) ≡ true
front_solid Head w = refl
front_solid (Entered line page) w = lacks-decimal 32 line space w.0
front_solid (Opened line page) w = lacks-decimal 32 line space w.0
front_solid (Archived line router put kept) w = lacks-decimal 32 line space w.0
front_solid (Seen line) w = lacks-decimal 32 line space w
front_solid (NotSeen line) w = lacks-decimal 32 line space w
front_solid (Unknown line) w = lacks-decimal 32 line space w
front_solid (Tick line time) w = lacks-decimal 32 line space w.0
front_solid (Closed line router page bits) w = lacks-decimal 32 line space w.0
front_solid (Left line router page) w = lacks-decimal 32 line space w.0
front_solid (Query line) w = lacks-decimal 32 line space w
front_solid (Pages line router expired unreadable used) w = lacks-decimal 32 line space w.0
front_solid (NodeLine line node) w = lacks-decimal 32 line space w.0
front_solid (EdgeLine line edge) w = lacks-decimal 32 line space w.0
front_solid (UnknownLine line node) w = lacks-decimal 32 line space w.0
front_solid (Answer line nodes edges unknown clear) w = lacks-decimal 32 line space w.0
front_solid (End line) w = lacks-decimal 32 line space w

solid_count : (n : ℕ) → IsCount n → lacks 32 (decimal n) ≡ true
solid_count n small = lacks-decimal 32 n space small

pub fields_solid : (names : List (List ℕ)) (x : Item) → HasNoSpaces names → IsPrintable names x → IsWritable x → Each (λ field. lacks 32 field ≡ true) (fields_of names x)
fields_solid names Head none named w = (refl, tt)
fields_solid names (Entered line page) none named w = (refl, (solid_count page.number w.1, tt))
fields_solid names (Opened line page) none named w = (refl, (solid_count page.number w.1, tt))
fields_solid names (Archived line router put kept) none named w =
    (refl, (lacks-name names router none named, (refl, (lacks-pages put w.1, (refl, (lacks-pages kept w.2, tt))))))
fields_solid names (Seen line) none named w = (refl, tt)
fields_solid names (NotSeen line) none named w = (refl, tt)
fields_solid names (Unknown line) none named w = (refl, tt)
fields_solid names (Tick line time) none named w = (refl, (solid_count time w.1, tt))
fields_solid names (Closed line router page bits) none named w = (refl, (lacks-name names router none named, (solid_count page.number w.1, (solid_count bits w.2, tt))))
fields_solid names (Left line router page) none named w = (refl, (lacks-name names router none named, (solid_count page.number w.1, tt)))
fields_solid names (Query line) none named w = (refl, tt)
fields_solid names (Pages line router expired unreadable used) none named w =
    (refl, (lacks-name names router none named, (refl, (lacks-range expired w.1, (refl, (lacks-bads unreadable w.2, (refl, (lacks-pages used w.3, tt))))))))
fields_solid names (NodeLine line node) none named w = (refl, (lacks-name names node.router none named, (lacks-hex node.sig.bytes, tt)))
fields_solid names (EdgeLine line edge) none named w =
    (refl, (lacks-name names edge.down.router none named.0, (lacks-hex edge.down.sig.bytes, (lacks-name names edge.up.router none named.1, (lacks-hex edge.up.sig.bytes, tt)))))
fields_solid names (UnknownLine line node) none named w = (refl, (lacks-name names node.router none named, (lacks-hex node.sig.bytes, tt)))
fields_solid names (Answer line nodes edges unknown clear) none named w =
    (refl, (refl, (solid_count nodes w.1, (refl, (solid_count edges w.2, (refl, (solid_count unknown w.3, (refl, (solid_count clear w.4, tt)))))))))
fields_solid names (End line) none named w = (refl, tt)
