-- What the code knows of the words that it is lent, and of a state that it goes on from.
use Rattle.std.specs.Prelude.{ℕ, ◌+◌, ◌-◌, ◌≤◌, ◌<◌, ◌≡◌, List, length, get_or}
use Rattle.std.proofs.Math.Option.{Option, none, some}
use Rattle.job.specs.declared.size.Size.{Size}
use Rattle.job.specs.Sizes.{job_size}
use Rattle.job.specs.Job.{Job, size_at, board_sizes, job_of}
use Rattle.job.specs.Admitted.{Admitted}
use Rattle.listing.specs.Listing.{Listing, plate_at, cut_at, listing_of}
use Rattle.listing.specs.Model.{Model}
use Rattle.listing.specs.Records.{plate_words, cut_words}
use Rattle.listing.specs.Holds.{Holds}
use Rattle.layouts.specs.Unfold.{Piece, Waiting, State}
use Rattle.unfold_waiting.specs.Begins.{Begins}
use Rattle.unfold_waiting.specs.Turns.{max_steps, TurnTo}
use Rattle.unfold_step.specs.declared.state.State.{State as CodeState}
use Rattle.unfold_step.specs.Meaning.{state_of}

-- `ws` are the words of an admitted job, and the buffers hold its listing
pub record JobLent (ws plates cuts : List ℕ) : Type 0 where
  pub words : length ws ≡ job_size (board_sizes ws) (length (job_of ws).items)
  pub admitted : Admitted (job_of ws)
  pub model : Model (job_of ws) (listing_of (job_of ws))
  pub plates-held : Holds plates (plate_words (job_of ws) (listing_of (job_of ws)).plates)
  pub cuts-held : Holds cuts (cut_words (listing_of (job_of ws)).cuts)

-- the same, and the listing has k cuts
pub record ModelLent (ws plates cuts : List ℕ) (k : ℕ) : Type 0 where
  pub lent : JobLent ws plates cuts
  pub cuts-number : length (listing_of (job_of ws)).cuts ≡ k

-- the same, and `begins` has where the cuts of each plate type begin, and a word past the last type (request Seven)
pub record PartsLent (ws plates cuts begins : List ℕ) : Type 0 where
  pub lent : JobLent ws plates cuts
  pub begins-are : Begins (listing_of (job_of ws)).cuts begins
  pub for-each : length (listing_of (job_of ws)).plates < length begins

-- a piece is of a plate type of the listing, and lies inside a board of size z (request Six)
pub record InBoard (z : Size) (l : Listing) (p : Piece) : Type 0 where
  pub listed : p.plate < length l.plates
  pub across : p.x + (plate_at l p.plate).width ≤ z.width
  pub up : p.y + (plate_at l p.plate).height ≤ z.height

-- the same of a place in which a piece waits or not
abbrev pub InSlot : Size → Listing → Option Piece → Type 0
InSlot z l none = Unit {0}
InSlot z l (some p) = InBoard z l p

-- every piece that waits lies inside the board
pub record Within (z : Size) (l : Listing) (w : Waiting) : Type 0 where
  pub one : InSlot z l w.first
  pub two : InSlot z l w.second
  pub three : InSlot z l w.third

-- a state from which a step can be taken: there is a count for each cut, the pieces lie inside the board, by its own size (request Six), and the numbers
-- are small
pub record Ready (job : Job) (l : Listing) (st : State) : Type 0 where
  pub counted : length l.cuts ≤ length st.counts
  pub within : Within (size_at job st.turn.board.size) l st.waiting
  pub turns : TurnTo max_steps st.turn

-- the same of the code's state, on a board of some size
pub record ReadyOn (job : Job) (l : Listing) (st : CodeState) (ns : List ℕ) : Type 0 where
  pub size : ℕ
  pub ready : Ready job l (state_of size st ns)

-- cut c can be done on a piece: it is a cut on the piece's type with a count left, and the piece lies inside a board of some size
pub record Cuttable (job : Job) (l : Listing) (ns : List ℕ) (c : ℕ) (p : Piece) : Type 0 where
  pub from_one : 1 ≤ c
  pub to_last : c ≤ length l.cuts
  pub left : 0 < get_or ns (c - 1) 0
  pub on : (cut_at l c).plate ≡ p.plate
  pub size : ℕ
  pub in-board : InBoard (size_at job size) l p
