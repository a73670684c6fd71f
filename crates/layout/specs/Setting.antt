-- The channel setting of a node: its numbers in the state, and what they stand for.
use Rattle.std.specs.Prelude.{◌≡◌, ℕ, ◌<◌, if◌then◌else◌, List, ◌==◌, nat_lt, Result, MatchResult, MatchBool}
use Rattle.layout.specs.Node.{count_of, mode_of, interpretation_of}
use Rattle.layout.specs.declared.setting.ChannelCountMode.{ChannelCountMode}
use Rattle.layout.specs.declared.setting.ChannelCountMode.TheVariants.{Max, ClampedMax, Explicit}
use Rattle.layout.specs.declared.setting.ChannelInterpretation.{ChannelInterpretation}
use Rattle.layout.specs.declared.setting.ChannelInterpretation.TheVariants.{Speakers, Discrete}
use Rattle.layout.specs.declared.setting.Setting.{Setting}
use Rattle.layout.specs.declared.setting.SettingWords.{SettingWords}
use Rattle.layout.specs.declared.setting.UnknownNumber.{UnknownNumber}

-- Max, ClampedMax, Explicit are 0, 1, 2
abbrev pub mode_number : ChannelCountMode → ℕ
mode_number Max = 0
mode_number ClampedMax = 1
mode_number Explicit = 2

-- Speakers, Discrete are 0, 1
abbrev pub interpretation_number : ChannelInterpretation → ℕ
interpretation_number Speakers = 0
interpretation_number Discrete = 1

-- the kind with this number, or an error with a number above the last one
abbrev pub Decodes : {A : Type 0} → (A → ℕ) → ℕ → ℕ → Result A UnknownNumber → Type 0
Decodes number last n r = MatchResult r (λ x. number x ≡ n) (λ e. (e.0 ≡ n) × (last < n))

-- the numbers of the channel setting of node id
abbrev pub setting_of : List ℕ → ℕ → SettingWords
setting_of s id = record { count = count_of s id; mode = mode_of s id; interpretation = interpretation_of s id }

-- the fresh setting: count 2, Max, Speakers (count 1 where C is 1)
abbrev pub fresh_setting : ℕ → Setting
fresh_setting ceiling = record { count = if ceiling == 1 then 1 else 2; mode = Max; interpretation = Speakers }

-- a setting as the state holds it
abbrev pub words_of : Setting → SettingWords
words_of x = record { count = x.count; mode = mode_number x.mode; interpretation = interpretation_number x.interpretation }

-- the setting with these numbers, or an error with the first of them that stands for nothing
abbrev pub DecodesSetting : SettingWords → Result Setting UnknownNumber → Type 0
DecodesSetting w r =
    MatchResult r (λ x. words_of x ≡ w) (λ e. MatchBool (nat_lt 2 w.mode) (e.0 ≡ w.mode) ((1 < w.interpretation) × (e.0 ≡ w.interpretation)))
