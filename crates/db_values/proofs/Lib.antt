mod RepeatLaws
mod TargetLaws
