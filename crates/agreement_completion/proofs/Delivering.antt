-- Letters are delivered until none is left: every sound board takes the first one, and hands over at once what that made.
use mathlib.Core.Path.{◌≡◌, refl, sym, ◌∙◌, subst}
use mathlib.Core.Logic.{◌⊎◌, inl, inr}
use mathlib.Core.Bool.{true}
use mathlib.Core.List.Memᴰ
use mathlib.Core.List.{List, [], ◌∷◌, ◌++◌, map, Memᴰ}
use Prim.Native.Nat.{ℕ, zero, suc, ◌+◌, ◌≤◌, ◌<◌}
use native.Mathlib.Omega.{arith}
use lib.ListN.{length, length-append, length-map}
use Rattle.std.specs.Prelude.{Ok}
use Rattle.base.specs.Sets.{Set}
use Rattle.base.specs.Found.{found}
use Rattle.plan.specs.Plan.{Plan}
use Rattle.message.specs.declared.Message.{Message}
use Rattle.message.specs.Reading.{Exactly, exact_message}
use Rattle.message.specs.Message.{message_bytes}
use Rattle.board_calls.specs.Calls.{Entry}
use Rattle.agreement.specs.History.{Instance, Lent, StartInput, Call, take_message_lem, take_finds, calls, History, Board, board_after}
use Rattle.agreement.specs.Allowed.{Sound, Handed, Continues, Allowed}
use Rattle.agreement.specs.Demand.{Took, Shared}
use Rattle.agreement.proofs.Boards.{makes_state, sent_read}
use Rattle.agreement.proofs.Accepted.{take_accepted, can_take}
use Rattle.agreement.proofs.Since.{since_handed}
use Rattle.agreement_completion.proofs.Boards.{either, below, sound_below, over_sound}
use Rattle.agreement_completion.proofs.Kept.{Counts, kept_counts, took_later}
use Rattle.agreement_completion.proofs.Ways.{Way, at}
use Rattle.agreement_completion.proofs.Posted.{running_posted}
use Rattle.agreement_completion.proofs.Calls.{Grown, lent_to, lent_room, lent_continues, take_grown}
use Rattle.agreement_completion.proofs.Serving.{Up, Served, serve}
use Rattle.agreement_completion.proofs.Open.{Letter, letter, Posted, Open, left_of, Changes, changes, still_counts, fewer_left, opened}

module _ (v : Instance) (plan : Plan) (bad : Set) (f : Shared v plan) where
  -- what a board that is up may hand over reads as it is
  pub posted_read : (h : History) → Allowed v bad h → (j : ℕ) → Sound v bad j → Up h j → (m : Message) → Posted h j m
      → exact_message (message_bytes m) ≡ Ok m
  posted_read h a j o u m x =
      sent_read v plan bad f h a j o.0 m ((makes_state v plan bad f h a j o.0 m).0 (subst (Memᴰ m) (running_posted v plan bad f h a j u.stage) x))

  module _ (h : History) (input : StartInput) where
    -- how many messages can still come
    abbrev left : Way v bad h input → ℕ
    left w = left_of v.n (at v bad h input w)

    -- ---- one letter, one board

    -- board k has taken the letter l; beside it `queue` waits, and letters that wait and messages to come are together no more than before
    record To (w : Way v bad h input) (l : Letter) (q : List Letter) (k : ℕ) : Type 0 where
      after : Way v bad h input
      queue : List Letter
      open_still : Open v bad (at v bad h input after) (l ∷ queue)
      took : Took (at v bad h input after) k l.sender l.message
      counts : (i : ℕ) → Counts i (at v bad h input w) (at v bad h input after)
      fewer : length queue + left after ≤ length q + left w

    take_one : (w : Way v bad h input) (l : Letter) (q : List Letter) → Open v bad (at v bad h input w) (l ∷ q) → (k : ℕ) → Sound v bad k → To w l q k
    take_one w l q ready k o = go (serve v bad h input w k o (ready.up k o) c tt (is.0, (ready.up j is.0).handed l.message is.1, (ready.up k o).handed) ok.0.0 g)
      where
        now : History
        now = at v bad h input w

        j : ℕ
        j = l.sender

        bytes : List ℕ
        bytes = message_bytes l.message

        is : Sound v bad j × Posted now j l.message
        is = ready.given l (Memᴰ.head refl)

        over : Handed j bytes now
        over = since_handed j bytes now ((ready.up j is.0).handed l.message is.1)

        b : Board
        b = board_after now k

        lent : Lent
        lent = lent_to b

        used : ℕ
        used = length b.journal

        more : Continues b b.party lent used
        more = lent_continues b (ready.up k o).stage

        c : Call
        c = take_message_lem b.party j bytes lent used

        ok : Allowed v bad (calls k c ∷ now) × ((m : Message) × (exact_message bytes ≡ Ok m) × Took (calls k c ∷ now) k j m)
        ok = can_take v plan bad f now w.allowed k o b.party lent used more (lent_room b) (omega arith) j bytes over

        finds : (e : Entry) × (take_finds b.party j bytes lent used ≡ found e)
        finds = take_accepted v plan bad f now w.allowed k o.0 b.party lent used more (lent_room b) (omega arith) j bytes over

        g : Grown now k (calls k c)
        g = take_grown v plan bad f now w.allowed k o.0 b.party lent used more j bytes finds.0 finds.1

        same : ok.1.0 ≡ l.message
        same =
            let e : ◌≡◌ {A = Exactly} (Ok ok.1.0) (Ok l.message) = sym ok.1.1 ∙ posted_read now w.allowed j is.0 (ready.up j is.0) l.message is.1 in
            cc

        go : Served v bad h input w k c → To w l q k
        go r = record {
          after = r.after;
          queue = map (letter k) g.new ++ q;
          open_still = opened v bad now later k g.new x o l q ready;
          took = took_later k (calls k c ∷ now) later (kept_counts k (calls k c ∷ now) later r.own) j l.message (subst (Took (calls k c ∷ now) k j) same ok.1.2);
          counts = still_counts v bad now later k g.new x;
          fewer = omega (arith, fewer_left v bad now later k g.new x v.n o.0, length-append (map (letter k) g.new) q, length-map g.new (letter k));
        }
          where
            later : History
            later = at v bad h input r.after

            x : Changes now later k g.new
            x = changes now later k c g r.up r.own r.others

    -- ---- one letter, all sound boards

    -- and so have all sound boards below k
    record ToAll (w : Way v bad h input) (l : Letter) (q : List Letter) (k : ℕ) : Type 0 where
      after : Way v bad h input
      queue : List Letter
      open_still : Open v bad (at v bad h input after) (l ∷ queue)
      took : (i : ℕ) → i < k → Sound v bad i → Took (at v bad h input after) i l.sender l.message
      fewer : length queue + left after ≤ length q + left w

    module _ (w : Way v bad h input) (l : Letter) (q : List Letter) where
      one_more : (k : ℕ) (r : ToAll w l q k) → To r.after l r.queue k → ToAll w l q (suc k)
      one_more k r t = record {
        after = t.after;
        queue = t.queue;
        open_still = t.open_still;
        took = λ i n. either (λ (y : ℕ). Sound v bad y → Took (at v bad h input t.after) y l.sender l.message) k i (λ s. t.took) (λ e s.
            took_later i (at v bad h input r.after) (at v bad h input t.after) (t.counts i) l.sender l.message (r.took i (below k i n e) s));
        fewer = omega (arith, r.fewer, t.fewer);
      }

      faulty : (k : ℕ) → bad k ≡ true → ToAll w l q k → ToAll w l q (suc k)
      faulty k e r = record {
        after = r.after;
        queue = r.queue;
        open_still = r.open_still;
        took = λ i n s. r.took i (sound_below v bad k e i n s) s;
        fewer = r.fewer;
      }

      to_all : Open v bad (at v bad h input w) (l ∷ q) → ToAll w l q v.n
      to_all ready =
          over_sound v bad (ToAll w l q) (record { after = w; queue = q; open_still = ready; took = λ i n s. absurd (omega arith); fewer = omega arith }) faulty
          (λ k o r. one_more k r (take_one r.after l r.queue r.open_still k o)) v.n (omega arith)

    -- then it need not wait any more
    closed : (now : History) (l : Letter) (q : List Letter) → Open v bad now (l ∷ q) → ((i : ℕ) → Sound v bad i → Took now i l.sender l.message)
        → Open v bad now q
    closed now l q w all = record {
      up = w.up;
      begun = w.begun;
      waits = λ i j m o p x. by i j m o (w.waits i j m o p x);
      given = λ n x. w.given n (Memᴰ.tail x);
    }
      where
        first : (i j : ℕ) (m : Message) → Sound v bad i → (letter j m ≡ l) ⊎ Memᴰ (letter j m) q → Took now i j m ⊎ Memᴰ (letter j m) q
        first i j m o (inl e) = inl (subst (λ (y : Letter). Took now i y.sender y.message) (sym e) (all i o))
        first i j m o (inr x) = inr x

        by : (i j : ℕ) (m : Message) → Sound v bad i → Took now i j m ⊎ Memᴰ (letter j m) (l ∷ q) → Took now i j m ⊎ Memᴰ (letter j m) q
        by i j m o (inl x) = inl x
        by i j m o (inr x) = first i j m o (Memᴰ.cases_cons x)

    -- ---- all letters

    -- each delivery takes one letter off, and what it makes could come before
    pub delivered : (fuel : ℕ) (w : Way v bad h input) (q : List Letter) → length q + left_of v.n (at v bad h input w) ≤ fuel → Open v bad (at v bad h input w) q
        → (later : Way v bad h input) × Open v bad (at v bad h input later) []
    delivered zero w [] n ready = (w, ready)
    delivered zero w (l ∷ q) n ready = absurd (omega arith)
    delivered (suc fuel) w [] n ready = (w, ready)
    delivered (suc fuel) w (l ∷ q) n ready =
        let r : ToAll w l q v.n = to_all w l q ready in
        delivered fuel r.after r.queue (omega (arith, r.fewer)) (closed (at v bad h input r.after) l r.queue r.open_still (λ i o. r.took i o.0 o))
