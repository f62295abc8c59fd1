mod OneDay
