-- Document 01, "The job", with the sizes of request Six: boards, item types and stage mode; the job as words; refusals 1 and 2 of the words, 3 and 4 of the
-- job.
use Rattle.std.specs.Prelude.{ℕ, zero, suc, ◌*◌, ◌/◌, ◌%◌, Bool, true, false, not, ◌&&◌, ◌||◌, List, [], ◌∷◌, leb, ltb, eqb, length, get_or, take, drop}
use Rattle.job.specs.declared.mode.Mode.{Mode}
use Rattle.job.specs.declared.size.Size.{Size}
use Rattle.job.specs.declared.item.Item.{Item}
use Rattle.job.specs.declared.item.Position.{Position}
use Rattle.job.specs.Lists.{any, all, sum_of}
use Rattle.job.specs.Sizes.{words_of_head, words_of_size, words_before, job_size}
pub use Rattle.job.specs.Sizes.{max_side, max_blade, max_sizes, max_cost, max_types, max_pieces}
use Rattle.job.specs.Verdict.{Verdict, ◌then◌, refuse_if, within, lowest}
use Rattle.job.specs.Mode.{mode_of}

-- a job: its stage mode, its board sizes (request Six), the width of the blade (request Four), and its item types; size j, "0 to t−1", stands at place j,
-- type i, from 1, at place i - 1
pub record Job : Type 0 where
  pub mode : Mode
  pub sizes : List Size
  pub blade : ℕ
  pub items : List Item

-- request Six: a board size by its words, W, H and cost
abbrev pub size : ℕ → ℕ → ℕ → Size
size w h c = record { width = w; height = h; cost = c }

-- what stands for a size that the job has not
abbrev pub no_size : Size
no_size = size 0 0 0

-- size j, from 0
unfoldable pub size_at : Job → ℕ → Size
size_at job j = get_or job.sizes j no_size

-- an item type by its words: width, height, demand, and its leave (request One), "1 if the type may be turned, 0 if not"
abbrev pub item : ℕ → ℕ → ℕ → ℕ → Item
item w h d v = record { width = w; height = h; demand = d; leave = v }

-- what stands for an item type that the job has not
abbrev pub no_item : Item
no_item = item 0 0 0 0

-- item type i, from 1
unfoldable pub item_at : Job → ℕ → Item
item_at job zero = no_item
item_at job (suc i) = get_or job.items i no_item

-- Request One, "shops turn parts by 90 degrees". What is cut and laid is an item type in a position: its sides as it lies there, and whether the
-- position is permitted
abbrev pub position : ℕ → ℕ → Bool → Position
position w h a = record { width = w; height = h; allowed = a }

-- what stands for a position that no item type has
abbrev pub no_position : Position
no_position = position 0 0 false

-- unturned, which is always permitted
unfoldable pub unturned : Item → Position
unturned it = position it.width it.height true

-- turned: permitted with leave alone, and "a square item has no turned cut"
unfoldable pub turned : Item → Position
turned it =
    position it.height it.width
    (eqb it.leave 1 && not (eqb it.width it.height))

-- the number of a position is "twice the type plus the turn" (request One); so its type is
unfoldable pub type_of : ℕ → ℕ
type_of q = q / 2

-- and its turn, 0 or 1
unfoldable pub turn_of : ℕ → ℕ
turn_of q = q % 2

-- the positions of item types, "the unturned first"
unfoldable pub positions_of : List Item → List Position
positions_of [] = []
positions_of (it ∷ its) = unturned it ∷ turned it ∷ positions_of its

-- the positions of a job in the order of their numbers, from 1: type 1 has 2 and 3; number 1 is no type's, and not permitted
unfoldable pub positions : Job → List Position
positions job = no_position ∷ positions_of job.items

-- position q, from 1
unfoldable pub position_at : Job → ℕ → Position
position_at job zero = no_position
position_at job (suc k) = get_or (positions job) k no_position

-- position q is permitted
abbrev pub permitted : Job → ℕ → Bool
permitted job q = (position_at job q).allowed

-- the item types of their words, four for each: "job words follow the lines" (request One)
unfoldable pub items_of : List ℕ → List Item
items_of [] = []
items_of (w ∷ []) = []
items_of (w ∷ h ∷ []) = []
items_of (w ∷ h ∷ d ∷ []) = []
items_of (w ∷ h ∷ d ∷ v ∷ ws) = item w h d v ∷ items_of ws

-- the sizes of their words, three for each
unfoldable pub sizes_of : List ℕ → List Size
sizes_of [] = []
sizes_of (w ∷ []) = []
sizes_of (w ∷ h ∷ []) = []
sizes_of (w ∷ h ∷ c ∷ ws) = size w h c ∷ sizes_of ws

-- request Six: the number of board sizes t, the third of the job's words
abbrev pub board_sizes : List ℕ → ℕ
board_sizes ws = get_or ws 2 0

-- the number of item types n, the fourth of the job's words
abbrev pub types_of : List ℕ → ℕ
types_of ws = get_or ws 3 0

-- as words a job is stages, exact, t, n and the blade's b (request Four), as line 1 has them; then W, H, cost of each size (request Six); then width,
-- height, demand and leave (request One) of each type
unfoldable pub job_of : List ℕ → Job
job_of ws =
    let t = board_sizes ws in
    record {
      mode = mode_of (get_or ws 0 0) (get_or ws 1 0);
      sizes = sizes_of (take (words_of_size * t) (drop words_of_head ws));
      blade = get_or ws 4 0;
      items = items_of (drop (words_before t) ws);
    }

-- a side, 1 to 10,000
abbrev pub side : ℕ → Bool
side x = within 1 max_side x

-- the words of the head are within their limits; "t (1 to 6, else 2)" (request Six), the blade is 0 to 20 (request Four)
unfoldable pub head_right : List ℕ → Bool
head_right ws =
    within 2 3 (get_or ws 0 0)
    && within 0 1 (get_or ws 1 0)
    && within 1 max_sizes (board_sizes ws)
    && within 1 max_types (types_of ws)
    && within 0 max_blade (get_or ws 4 0)

-- the words of a size are within their limits: its sides, and "a cost of 1 to 999" (request Six)
unfoldable pub size_right : Size → Bool
size_right z = side z.width && side z.height && within 1 max_cost z.cost

-- the words of the head and of every size are within their limits
unfoldable pub board_right : List ℕ → Bool
board_right ws = head_right ws && all size_right (job_of ws).sizes

-- the words of an item type are within their limits; a leave is 0 or 1
unfoldable pub item_right : Item → Bool
item_right it =
    side it.width
    && side it.height
    && within 1 max_pieces it.demand
    && within 0 1 it.leave

-- the line row of job words: 1 another length than that of t sizes and n types; 2 a value outside its limits, naming the type, or 0 for the head and
-- the sizes
unfoldable pub job_words : List ℕ → Verdict
job_words ws =
    refuse_if (not (eqb (length ws) (job_size (board_sizes ws) (types_of ws)))) 1 0
    then refuse_if (not (board_right ws)) 2 0
    then lowest 2 (λ _ it. not (item_right it)) 1 (job_of ws).items

-- a permitted position that is not wider or taller than a board of this size
unfoldable pub fits_in : Position → Size → Bool
fits_in p z =
    p.allowed
    && leb p.width z.width
    && leb p.height z.height

-- .. than a board of some size: "an item must fit some size" (request Six)
unfoldable pub fits : Job → Position → Bool
fits job p = any (fits_in p) job.sizes

-- what 3 means since requests One and Six: "no permitted position fits" any size
unfoldable pub larger : Job → Item → Bool
larger job it = not (fits job (unturned it) || fits job (turned it))

-- the demands, added up
unfoldable pub demanded : Job → ℕ
demanded job = sum_of (λ it. it.demand) job.items

-- the job row: 3 an item of which no permitted position fits any size, naming the type; 4 demands above 4,000
unfoldable pub admission : Job → Verdict
admission job =
    lowest 3 (λ _ it. larger job it) 1 job.items
    then refuse_if (ltb max_pieces (demanded job)) 4 0
