-- The arguments of the command line.
use Rattle.std.specs.Prelude.{ℕ, ◌≤◌, List, [], ◌∷◌, ◌==◌, Bool, true, false, codes, Some, None, option_map, if◌then◌else◌}
use Rattle.std.specs.Str.{bytes_eq}
use Rattle.std.specs.declared.option.Option.{Option}
use Rattle.gate_core.specs.declared.limits.TheConstants.{MOST_PASSES}
use Rattle.spie_base.specs.Decimal.{number_in}
use Rattle.trace_format.specs.Spelling.{IsName}
use Rattle.trace_format.specs.Text.{is_name}
use Rattle.trace_format.specs.declared.limits.TheConstants.{MOST_NUMBER}
use Rattle.made_trace.specs.declared.made.TheConstants.{MOST_MADE}
use Rattle.spie_run.specs.declared.words.Command.{Command}
use Rattle.spie_run.specs.declared.words.Command.TheVariants.{Replay, Play, Pcap, PcapCount, Make, Load, Check}
use Rattle.spie_run.specs.declared.words.Making.{Making}
use Rattle.spie_run.specs.declared.words.TheConstants.{MOST_SEED, MOST_SKIP}

abbrev pub none_of_none : Option ℕ → Option ℕ
none_of_none (Some count) = if count == 0 then None else Some count
none_of_none None = None

-- the count that a word says, from 1 to `most`
abbrev pub count_in : (most : ℕ) → (word : List ℕ) → Option ℕ
count_in most word = none_of_none (number_in word most)

-- a folder's name has one byte at least
abbrev pub is_named : (folder : List ℕ) → Bool
is_named [] = false
is_named (byte ∷ bytes) = true

-- the words behind `replay`: W, or W and FOLDER
abbrev pub replay_of : (most : ℕ) → List (List ℕ) → Option Command
replay_of most (workers ∷ []) = option_map Replay (count_in most workers)
replay_of most (workers ∷ folder ∷ []) = if is_named folder then option_map Replay (count_in most workers) else None
replay_of most _ = None

-- the words behind `play`: none
abbrev pub play_of : List (List ℕ) → Option Command
play_of [] = Some Play
play_of _ = None

abbrev pub pcap_by : (first skip : Option ℕ) → Option Command
pcap_by (Some first) (Some skip) = Some (Pcap first skip)
pcap_by _ _ = None

-- the words behind `pcap`: NAME, FIRST and SKIP, or `count`
abbrev pub pcap_of : List (List ℕ) → Option Command
pcap_of (word ∷ []) = if bytes_eq word (codes "count") then Some PcapCount else None
pcap_of (name ∷ first ∷ skip ∷ []) = if is_name name then pcap_by (number_in first MOST_NUMBER) (number_in skip MOST_SKIP) else None
pcap_of _ = None

abbrev pub making_by : (seed packets : Option ℕ) → Option Making
making_by (Some seed) (Some packets) = Some (record { seed = seed; packets = packets })
making_by _ _ = None

-- what is made: SEED and PACKETS
abbrev pub making_of : (seed packets : List ℕ) → Option Making
making_of seed packets = making_by (number_in seed MOST_SEED) (count_in MOST_MADE packets)

-- the words behind `make`: SEED and PACKETS
abbrev pub make_of : List (List ℕ) → Option Command
make_of (seed ∷ packets ∷ []) = option_map Make (making_of seed packets)
make_of _ = None

abbrev pub load_by : Option Making → (workers : Option ℕ) → Option Command
load_by (Some made) (Some workers) = Some (Load made workers)
load_by _ _ = None

-- the words behind `load`: SEED, PACKETS and W
abbrev pub load_of : (most : ℕ) → List (List ℕ) → Option Command
load_of most (seed ∷ packets ∷ workers ∷ []) = load_by (making_of seed packets) (count_in most workers)
load_of most _ = None

-- the words behind `check`: none
abbrev pub check_of : List (List ℕ) → Option Command
check_of [] = Some Check
check_of _ = None

-- what the arguments ask for, by the first word and the number of words behind it, with `most` workers at most
abbrev pub command_of : (most : ℕ) → List (List ℕ) → Option Command
command_of most [] = None
command_of most (word ∷ rest) =
    if bytes_eq word (codes "replay") then replay_of most rest else
    (if bytes_eq word (codes "play") then play_of rest else
    (if bytes_eq word (codes "pcap") then pcap_of rest else
    (if bytes_eq word (codes "make") then make_of rest else
    (if bytes_eq word (codes "load") then load_of most rest else
    (if bytes_eq word (codes "check") then check_of rest else None)))))

-- the last of three words
abbrev pub third_of : List (List ℕ) → Option (List ℕ)
third_of (word ∷ workers ∷ folder ∷ []) = Some folder
third_of _ = None

abbrev pub folder_by : Option Command → List (List ℕ) → Option (List ℕ)
folder_by (Some (Replay workers)) words = third_of words
folder_by _ words = None

-- the folder of `replay W FOLDER`
abbrev pub folder_of : List (List ℕ) → Option (List ℕ)
folder_of words = folder_by (command_of MOST_PASSES words) words

abbrev pub first_word : List (List ℕ) → List ℕ
first_word [] = []
first_word (word ∷ more) = word

-- the second word, the router of `pcap NAME FIRST SKIP`
abbrev pub name_in : List (List ℕ) → List ℕ
name_in [] = []
name_in (word ∷ rest) = first_word rest

-- where a command speaks of a router, this is a name, and its first number that of a packet
abbrev pub IsNamed : Command → (name : List ℕ) → Type 0
IsNamed (Pcap first skip) name = IsName name × (first ≤ MOST_NUMBER)
IsNamed _ name = Unit {0}

-- what is made is no more than can be
abbrev pub IsMaking : Making → Type 0
IsMaking made = (1 ≤ made.packets) × (made.packets ≤ MOST_MADE)

-- a command has from 1 to `most` workers, or none, and makes no more packets than can be made
abbrev pub IsInRange : (most : ℕ) → Command → Type 0
IsInRange most (Replay workers) = (1 ≤ workers) × (workers ≤ most)
IsInRange most (Make made) = IsMaking made
IsInRange most (Load made workers) = IsMaking made × (1 ≤ workers) × (workers ≤ most)
IsInRange most _ = Unit {0}

-- a command that replays a trace, and so may use shelf and yard
abbrev pub is_replay : Command → Bool
is_replay (Replay workers) = true
is_replay (Load made workers) = true
is_replay _ = false

-- a command that reads an input
abbrev pub reads : Command → Bool
reads (Make made) = false
reads (Load made workers) = false
reads _ = true
